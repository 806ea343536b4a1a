-- The lines of a text begin with what stands before its first newline. Assumes nothing.
use Rattle.std.proofs.Common.{◌≡◌, true, false, List, [], ◌∷◌, ◌++◌, ℕ, zero, suc, ◌≤◌, ◌<◌, arith, eqb, length, get_or, take}
use Rattle.std.proofs.lemmas.Bool.{ne_eqb}
use Rattle.theory_sheet.specs.Sheet.{Line, before, lines_of}

-- bytes without a newline
unfoldable pub Unbroken : List ℕ → Type 0
Unbroken [] = Unit
Unbroken (x ∷ xs) = (eqb x 10 ≡ false) × Unbroken xs

pub unbroken-more : (xs : List ℕ) (x : ℕ) → Unbroken xs → eqb x 10 ≡ false → Unbroken (xs ++ (x ∷ []))
unfolding Unbroken
unbroken-more [] x u e = (e, tt)
unbroken-more (y ∷ xs) x u e = (u.0, unbroken-more xs x u.1 e)

pub unbroken-take : (xs : List ℕ) (k : ℕ) → ((i : ℕ) → i < k → get_or xs i 0 ≡ 10 → ⊥) → k ≤ length xs → Unbroken (take k xs)
unfolding Unbroken
unbroken-take xs zero f l = tt
unbroken-take [] (suc k) f l = absurd (omega arith)
unbroken-take (x ∷ xs) (suc k) f l =
    (ne_eqb x 10 (f 0 (omega arith)), unbroken-take xs k (λ i less. f (suc i) (omega arith)) (omega arith))

-- a newline ends the line before it
pub lines-ended : (xs : List ℕ) (x : ℕ) (ys : List ℕ) → Unbroken xs → eqb x 10 ≡ true →
    lines_of (xs ++ (x ∷ ys)) ≡ record { text = xs; ended = true } ∷ lines_of ys
unfolding Unbroken lines_of before
lines-ended [] x ys u e = rw e
lines-ended (y ∷ xs) x ys u e = rw (u.0, lines-ended xs x ys u.1 e)

-- without one there is one line, not ended
pub lines-unended : (x : ℕ) (xs : List ℕ) → Unbroken (x ∷ xs) → lines_of (x ∷ xs) ≡ record { text = x ∷ xs; ended = false } ∷ []
unfolding Unbroken lines_of before
lines-unended x [] u = rw u.0
lines-unended x (y ∷ xs) u = rw (u.0, lines-unended y xs u.1)

-- the first line has n bytes or more
unfoldable pub FirstHas : ℕ → List Line → Type 0
FirstHas n [] = n ≤ 0
FirstHas n (l ∷ ls) = n ≤ length l.text

first-none : (ls : List Line) → FirstHas 0 ls
unfolding FirstHas
first-none [] = omega arith
first-none (l ∷ ls) = omega arith

first_more : (n x : ℕ) (ls : List Line) → FirstHas n ls → FirstHas (suc n) (before x ls)
unfolding FirstHas before
first_more n x [] h = omega (arith, h)
first_more n x (l ∷ ls) h = omega (arith, h)

pub first-has : (xs ys : List ℕ) → Unbroken xs → FirstHas (length xs) (lines_of (xs ++ ys))
unfolding Unbroken lines_of
first-has [] ys u = first-none (lines_of ys)
first-has (x ∷ xs) ys u =
    rw u.0 (first_more (length xs) x (lines_of (xs ++ ys)) (first-has xs ys u.1))
