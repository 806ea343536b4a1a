-- Laws of tests in a row: what the first ones refuse stays refused, and where none of them holds those after them count. Assumes nothing.
use Rattle.std.proofs.Common.{Result, Ok, Err, ◌≡◌, refl, sym, ◌∙◌, Bool, true, false, cond, ◌&&◌, List, [], ◌∷◌, ◌++◌, ℕ, zero, suc, ◌≤◌, arith, leb-true, ltb-true, leb, ltb}
use Rattle.std.proofs.lemmas.Bool.{and_parts}
use Rattle.mesh.specs.declared.Refusal.{Refusal}
use Rattle.mesh.specs.Tests.{Test, first}
use Rattle.mesh.specs.Numbers.{number, checked_number}
use Rattle.mesh.proofs.Numbers.{number-some}

-- no test has the number 0, which says that none holds
unfoldable pub numbered : List Test → Bool
numbered [] = true
numbered (t ∷ ts) = ltb 0 t.number && numbered ts

-- none of them holds
unfoldable pub NoneHolds : List Test → Type 0
NoneHolds [] = Unit {0}
NoneHolds (t ∷ ts) = (t.holds ≡ false) × NoneHolds ts

pub first_some : (k : ℕ) (ts us : List Test) → first ts ≡ suc k → first (ts ++ us) ≡ suc k
unfolding first
first_some k [] us h = absurd (omega arith)
first_some k (t ∷ ts) us h = by t.holds (first_some k ts us) h
  where
    by : (b : Bool) → (first ts ≡ suc k → first (ts ++ us) ≡ suc k) → cond b t.number (first ts) ≡ suc k →
        cond b t.number (first (ts ++ us)) ≡ suc k
    by true rest h = h
    by false rest h = rest h

pub first-none : (ts : List Test) → numbered ts ≡ true → first ts ≡ 0 → NoneHolds ts
unfolding first numbered NoneHolds
first-none [] n h = tt
first-none (t ∷ ts) n h = by t.holds (first-none ts (and_parts (ltb 0 t.number) _ n).1) h
  where
    by : (b : Bool) → (first ts ≡ 0 → NoneHolds ts) → cond b t.number (first ts) ≡ 0 → (b ≡ false) × NoneHolds ts
    by true rest h = absurd (omega (arith, ltb-true 0 t.number (and_parts _ _ n).0))
    by false rest h = (refl, rest h)

-- no test has a number above m
unfoldable pub numbered_to : ℕ → List Test → Bool
numbered_to m [] = true
numbered_to m (t ∷ ts) = leb t.number m && numbered_to m ts

pub first-most : (m : ℕ) (ts : List Test) → numbered_to m ts ≡ true → first ts ≤ m
unfolding first numbered_to
first-most m [] n = omega arith
first-most m (t ∷ ts) n = by t.holds (first-most m ts (and_parts (leb t.number m) _ n).1)
  where
    by : (b : Bool) → first ts ≤ m → cond b t.number (first ts) ≤ m
    by true rest = leb-true t.number m (and_parts _ _ n).0
    by false rest = rest

first_next : (ts us : List Test) → NoneHolds ts → first (ts ++ us) ≡ first us
unfolding first NoneHolds
first_next [] us h = refl
first_next (t ∷ ts) us (e, h) = rw e (first_next ts us h)

-- where all together come to none, so do the first
none_before : (a all : ℕ) → ((k : ℕ) → a ≡ suc k → all ≡ suc k) → all ≡ 0 → a ≡ 0
none_before zero all h e = refl
none_before (suc k) all h e = absurd (omega (arith, h k refl))

module _ (ts us : List Test) where
  pub clear-before : first (ts ++ us) ≡ 0 → first ts ≡ 0
  clear-before = none_before (first ts) (first (ts ++ us)) (λ k. first_some k ts us)

  pub clear_next : numbered ts ≡ true → first ts ≡ 0 → first (ts ++ us) ≡ first us
  clear_next n h = first_next ts us (first-none ts n h)

  -- tests that say nothing new
  pub clear-same : numbered ts ≡ true → (first ts ≡ 0 → first us ≡ 0) → first (ts ++ us) ≡ first ts
  clear-same n h = by (first ts) refl
    where
      by : (k : ℕ) → first ts ≡ k → first (ts ++ us) ≡ first ts
      by zero e = clear_next n e ∙ h e ∙ sym e
      by (suc k) e = first_some k ts us e ∙ sym e

  -- what a check of the first tests has told
  module _ {A : Type 0} {x : Result A Refusal} (told : checked_number x ≡ first ts) where
    pub told-refused : {why : Refusal} → x ≡ Err why → first (ts ++ us) ≡ number why
    told-refused {why} e = first_some _ ts us (sym told ∙ rw e (number-some why)) ∙ sym (number-some why)

pub told-clear : {A : Type 0} (ts : List Test) {x : Result A Refusal} {a : A} → x ≡ Ok a → checked_number x ≡ first ts → first ts ≡ 0
told-clear ts e told = sym told ∙ rw e
