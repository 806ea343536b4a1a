-- Laws of `some`, for a list that is looked through from the front. Assumes nothing.
use Rattle.std.proofs.Common.{◌≡◌, refl, sym, ap, ◌∙◌, Bool, true, false, ◌||◌, List, [], ◌∷◌, ℕ, zero, suc, ◌+◌, ◌≤◌, ◌<◌, add-zero, add-suc, suc-add, add-one, arith, length, get_or, set, replicate, drop, drop_of_length-le, drop-cons}
use Rattle.std.proofs.lemmas.Bool.{or_parts}
use Rattle.std.proofs.Math.Bool.{or_assoc, or-false}
use Rattle.mesh.specs.Maps.{some}

pub none_passes : (t : ℕ → ℕ → Bool) (i : ℕ) (xs : List ℕ) → some t i xs ≡ false → (j : ℕ) → j < length xs → t (i + j) (get_or xs j 0) ≡ false
unfolding some
none_passes t i [] e j h = absurd (omega arith)
none_passes t i (x ∷ xs) e zero h = rw add-zero (or_parts (t i x) (some t (suc i) xs) e).0
none_passes t i (x ∷ xs) e (suc j) h =
    rw (add-suc, ← suc-add) (none_passes t (suc i) xs (or_parts (t i x) (some t (suc i) xs) e).1 j (omega arith))

-- a test that x does not pass, wherever it stands
pub none-same : (t : ℕ → ℕ → Bool) (x : ℕ) → ((i : ℕ) → t i x ≡ false) → (n i : ℕ) → some t i (replicate n x) ≡ false
unfolding some
none-same t x h zero i = refl
none-same t x h (suc n) i = rw (h i) (none-same t x h n (suc i))

-- a number is set that does not pass there
pub none-set : (t : ℕ → ℕ → Bool) (i : ℕ) (xs : List ℕ) (k y : ℕ) → t (i + k) y ≡ false → some t i xs ≡ false → some t i (set xs k y) ≡ false
unfolding some
none-set t i [] k y h e = refl
none-set t i (x ∷ xs) zero y h e = rw (rw add-zero at h) (or_parts (t i x) (some t (suc i) xs) e).1
none-set t i (x ∷ xs) (suc k) y h e =
    let (a, b) = or_parts (t i x) (some t (suc i) xs) e in
    rw a (none-set t (suc i) xs k y (rw (suc-add, ← add-suc) h) b)

-- of the numbers from index i on
unfoldable pub some_from : (ℕ → ℕ → Bool) → List ℕ → ℕ → Bool
some_from t xs i = some t i (drop i xs)

module _ (t : ℕ → ℕ → Bool) (xs : List ℕ) where
  some-all : some t 0 xs ≡ some_from t xs 0
  unfolding some_from
  some-all = refl

  module _ {i : ℕ} where
    some_end : length xs ≤ i → some_from t xs i ≡ false
    unfolding some_from some
    some_end h = rw (drop_of_length-le xs {i = i} h)

    some_next : i < length xs → some_from t xs i ≡ t i (get_or xs i 0) || some_from t xs (i + 1)
    unfolding some_from some
    some_next h = rw (drop-cons xs i 0 h, add-one)

-- n numbers are looked through for one that passes: none before index i does, so that the rest decides
pub record LookedThrough (t : ℕ → ℕ → Bool) (xs : List ℕ) (n i : ℕ) : Type 0 where
  pub within : i ≤ n
  pub all : n ≡ length xs
  pub rest : some t 0 xs ≡ some_from t xs i

pub looked-none : (t : ℕ → ℕ → Bool) {xs : List ℕ} {n : ℕ} → n ≡ length xs → LookedThrough t xs n 0
looked-none t {xs} e = record { within = omega arith; all = e; rest = some-all t xs }

module _ {t : ℕ → ℕ → Bool} {xs : List ℕ} {n i : ℕ} (l : LookedThrough t xs n i) where
  module _ (h : i < n) where
    inside : i < length xs
    inside = omega (arith, l.all)

    pub looked-here : t i (get_or xs i 0) ≡ true → true ≡ some t 0 xs
    looked-here e = sym (l.rest ∙ some_next t xs inside ∙ rw e)

    pub looked-more : t i (get_or xs i 0) ≡ false → LookedThrough t xs n (i + 1)
    looked-more e = record { within = omega arith; all = l.all; rest = l.rest ∙ some_next t xs inside ∙ rw e }

  pub looked-all : n ≤ i → false ≡ some t 0 xs
  looked-all h = sym (l.rest ∙ some_end t xs (omega (arith, l.all)))

-- all n numbers are looked at: b tells whether one before index i passes
pub record Gathered (t : ℕ → ℕ → Bool) (xs : List ℕ) (n i : ℕ) (b : Bool) : Type 0 where
  pub within : i ≤ n
  pub all : n ≡ length xs
  pub rest : some t 0 xs ≡ b || some_from t xs i

module _ (t : ℕ → ℕ → Bool) {xs : List ℕ} {n : ℕ} where
  pub gathered_none : n ≡ length xs → Gathered t xs n 0 false
  gathered_none e = record { within = omega arith; all = e; rest = some-all t xs }

  module _ {i : ℕ} {b : Bool} (g : Gathered t xs n i b) where
    pub gathered-more : {c : Bool} → i < n → c ≡ b || t i (get_or xs i 0) → Gathered t xs n (i + 1) c
    gathered-more {c} h e =
        record {
          within = omega arith;
          all = g.all;
          rest =
              g.rest ∙ ap (λ x. b || x) (some_next t xs (omega (arith, g.all))) ∙
              rw e (sym (or_assoc b (t i (get_or xs i 0)) (some_from t xs (i + 1))));
        }

    pub gathered-all : n ≤ i → b ≡ some t 0 xs
    gathered-all h = sym (g.rest ∙ rw (some_end t xs {i = i} (omega (arith, g.all))) (or-false b))
