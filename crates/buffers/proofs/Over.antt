-- Bytes written one after another stand as a whole. Assumes nothing.
use mathlib.Core.Path.{◌≡◌, refl, sym, ap, ◌∙◌}
use mathlib.Core.List.{List, [], ◌∷◌, ◌++◌, append_assoc}
use Prim.Native.Nat.{ℕ, zero, suc, ◌+◌, ◌≤◌}
use native.Mathlib.Nat.{add-zero, zero-add}
use native.Mathlib.Numerals.{add-one}
use native.Mathlib.Omega.{arith}
use lib.ListN.{length, take, drop, set, length-set, length-append, take-append-drop}
use lib.Seq.{take-suc-set, drop-set-lt}
use Rattle.buffers.specs.Over.{over, Puts}

pub set_beyond : (xs : List ℕ) (i y : ℕ) → length xs ≤ i → xs ≡ set xs i y
set_beyond [] i y h = refl
set_beyond (x ∷ xs) zero y h = absurd (omega arith)
set_beyond (x ∷ xs) (suc i) y h = ap (λ zs. x ∷ zs) (set_beyond xs i y (omega arith))

pub over-length : (xs : List ℕ) (i : ℕ) (ys : List ℕ) → length (over xs i ys) ≡ length xs
unfolding over
over-length xs i [] = refl
over-length xs i (y ∷ ys) = over-length (set xs i y) (i + 1) ys ∙ length-set xs i y

pub over-append : (xs : List ℕ) (i : ℕ) (ys zs : List ℕ) → over xs i (ys ++ zs) ≡ over (over xs i ys) (i + length ys) zs
unfolding over
over-append xs i [] zs = rw add-zero
over-append xs i (y ∷ ys) zs =
    let next : i + 1 + length ys ≡ i + suc (length ys) = omega arith in
    over-append (set xs i y) (i + 1) ys zs ∙ rw next

pub over-from : (xs : List ℕ) (i : ℕ) (ys : List ℕ) → i + length ys ≤ length xs → over xs i ys ≡ take i xs ++ (ys ++ drop (i + length ys) xs)
unfolding over
over-from xs i [] h = rw add-zero (sym (take-append-drop i xs))
over-from xs i (y ∷ ys) h =
    let next : i + 1 + length ys ≡ i + suc (length ys) = omega arith in
    over-from (set xs i y) (i + 1) ys (rw (length-set xs i y) (omega arith)) ∙
    rw (next, drop-set-lt (i + suc (length ys)) xs i y (omega arith), add-one, take-suc-set xs i y (omega arith))
    (append_assoc (take i xs) (y ∷ []) (ys ++ drop (i + suc (length ys)) xs))

pub over-all : (xs ys : List ℕ) → length ys ≤ length xs → over xs 0 ys ≡ ys ++ drop (length ys) xs
over-all xs ys h = over-from xs 0 ys (omega arith) ∙ rw (zero-add (length ys))

-- what lies after them is as it was
pub over-drop : (xs : List ℕ) (i : ℕ) (ys : List ℕ) → drop (i + length ys) (over xs i ys) ≡ drop (i + length ys) xs
unfolding over
over-drop xs i [] = refl
over-drop xs i (y ∷ ys) =
    let next : i + suc (length ys) ≡ i + 1 + length ys = omega arith in
    rw next (over-drop (set xs i y) (i + 1) ys ∙ drop-set-lt (i + 1 + length ys) xs i y (omega arith))

pub puts-nothing : (out : List ℕ) (at : ℕ) → at ≤ length out → Puts out at [] at out
unfolding over
puts-nothing out at h = record { next = omega arith; stands = refl; fits = h }

-- one thing after another
pub puts-append : {out : List ℕ} {at : ℕ} {ys : List ℕ} {x : ℕ} {mid zs : List ℕ} {x' : ℕ} {after : List ℕ} → Puts out at ys x mid →
    Puts mid x zs x' after → Puts out at (ys ++ zs) x' after
puts-append {out} {at} {ys} {x} {mid} {zs} {x'} {after} p q =
    record {
      next = q.next ∙ omega (arith, p.next, length-append ys zs);
      stands = q.stands ∙ rw (p.stands, p.next) (sym (over-append out at ys zs));
      fits = let size = rw p.stands at q.fits in omega (arith, over-length out at ys);
    }
