-- What a list of selected values holds. Assumes nothing.
use Rattle.std.proofs.Common.{◌≡◌, refl, inl, inr, Bool, true, ℕ, zero, suc, ◌+◌, ◌≤◌, ◌<◌, arith, length}
use Rattle.std.proofs.lemmas.Bool.{cases_Bool}
use Rattle.std.proofs.Math.Decide.{dec_lt}
use mathlib.Core.List.Memᴰ
use mathlib.Core.List.{Memᴰ}
use Rattle.mesh.specs.Blocks.{select}
use Rattle.theory_blocks.specs.Obstacles.{Pairs, none, more}

module _ {A : Type 0} (t : ℕ → Bool) (f : ℕ → A) where
  -- a is the value of an index from i on, of the first n, that passes
  pub record Selected (n i : ℕ) (a : A) : Type 0 where
    pub index : ℕ
    pub from : i ≤ index
    pub below : index < n + i
    pub test : t index ≡ true
    pub is : a ≡ f index

  pub mem-selected : (n i : ℕ) (a : A) → Memᴰ a (select t f n i) → Selected n i a
  unfolding select
  mem-selected zero i a m = absurd (Memᴰ.not-nil m)
  mem-selected (suc n) i a m =
      elim (cases_Bool (t i)) [
        | inl e ↦
            elim (Memᴰ.cases_cons (rw e at m))
            [ inl q ↦ record { index = i; from = omega arith; below = omega arith; test = e; is = q } | inr u ↦ later (mem-selected n (suc i) a u) ]
        | inr e ↦ later (mem-selected n (suc i) a (rw e at m))
      ]
    where
      later : Selected n (suc i) a → Selected (suc n) i a
      later s = record { index = s.index; from = omega arith; below = omega arith; test = s.test; is = s.is }

  pub selected-mem : (n i j : ℕ) → i ≤ j → j < n + i → t j ≡ true → Memᴰ (f j) (select t f n i)
  unfolding select
  selected-mem zero i j p q e = absurd (omega arith)
  selected-mem (suc n) i j p q e =
      elim (dec_lt i j) [
        | yes h ↦
            let m = selected-mem n (suc i) j h (omega arith) e in
            elim (cases_Bool (t i)) [ inl u ↦ rw u (Memᴰ.tail m) | inr u ↦ rw u m ]
        | no h ↦
            let s : j ≡ i = omega arith in
            rw (s, rw s at e) (Memᴰ.head refl)
      ]

  pub selected-pairs : (R : A → A → Type 0) → ((i j : ℕ) → i < j → t i ≡ true → t j ≡ true → R (f i) (f j)) → (n i : ℕ) → Pairs R (select t f n i)
  unfolding select
  selected-pairs R r zero i = none
  selected-pairs R r (suc n) i =
      elim (cases_Bool (t i)) [
        | inl e ↦
            rw e
            (more {a = f i}
            (λ b m. let s = mem-selected n (suc i) b m in rw s.is (r i s.index s.from e s.test))
            (selected-pairs R r n (suc i)))
        | inr e ↦ rw e (selected-pairs R r n (suc i))
      ]

  pub select-few : (n i : ℕ) → length (select t f n i) ≤ n
  unfolding select
  select-few zero i = omega arith
  select-few (suc n) i =
      let few = select-few n (suc i) in
      elim (cases_Bool (t i)) [ inl e ↦ rw e (omega arith) | inr e ↦ rw e (omega arith) ]
