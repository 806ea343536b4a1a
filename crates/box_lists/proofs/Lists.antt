-- Boxes in a list: what a store of one changes. Assumes nothing.
use mathlib.Core.Path.{◌≡◌, refl, ◌∙◌}
use mathlib.Core.List.{List}
use Prim.Native.Nat.{ℕ, ◌+◌, ◌*◌, ◌/◌, ◌≤◌, ◌<◌}
use native.Mathlib.Omega.{arith}
use lib.ListN.{length, get_or, set, length-set}
use lib.Seq.{get_or-set_same, get_or-set_other}
use Rattle.theory_boxes.specs.Boxes.{Box}
use Rattle.theory_boxes.proofs.Close.{box-ext}
use Rattle.box_lists.specs.Lists.{box_at, put_box, Room, Kept}

length-put : (xs : List ℕ) (i : ℕ) (b : Box) → length (put_box xs i b) ≡ length xs
unfolding put_box
length-put xs i b = simp length-set

-- what stands where box i is written
module _ (xs : List ℕ) (i : ℕ) (b : Box) where
  -- after the first store, the second, the third
  abbrev one : List ℕ
  one = set xs (4 * i) b.low-row

  abbrev two : List ℕ
  two = set one (4 * i + 1) b.low_column

  abbrev three : List ℕ
  three = set two (4 * i + 2) b.high-row

  -- a number of another box
  put_other : (j : ℕ) → (j / 4 ≡ i → ⊥) → get_or (put_box xs i b) j 0 ≡ get_or xs j 0
  unfolding put_box
  put_other j ne =
      get_or-set_other three (4 * i + 3) j b.high-column 0 (λ e. ne (omega arith)) ∙
      get_or-set_other two (4 * i + 2) j b.high-row 0 (λ e. ne (omega arith)) ∙
      get_or-set_other one (4 * i + 1) j b.low_column 0 (λ e. ne (omega arith)) ∙
      get_or-set_other xs (4 * i) j b.low-row 0 (λ e. ne (omega arith))

  pub put-elsewhere : (j : ℕ) → (j ≡ i → ⊥) → box_at (put_box xs i b) j ≡ box_at xs j
  unfolding box_at
  put-elsewhere j ne =
      box-ext _ _ (put_other (4 * j) (λ e. ne (omega arith))) (put_other (4 * j + 1) (λ e. ne (omega arith)))
      (put_other (4 * j + 2) (λ e. ne (omega arith))) (put_other (4 * j + 3) (λ e. ne (omega arith)))

  pub put-beyond : (n : ℕ) → i < n → Kept xs (4 * n) (put_box xs i b)
  put-beyond n h = record { size = length-put xs i b; kept = λ j l. put_other j (λ e. omega arith) }

  -- its own
  module _ (room : Room xs (i + 1)) where
    first : get_or (put_box xs i b) (4 * i) 0 ≡ b.low-row
    unfolding put_box
    first =
        get_or-set_other three (4 * i + 3) (4 * i) b.high-column 0 (λ e. omega arith) ∙
        get_or-set_other two (4 * i + 2) (4 * i) b.high-row 0 (λ e. omega arith) ∙
        get_or-set_other one (4 * i + 1) (4 * i) b.low_column 0 (λ e. omega arith) ∙
        get_or-set_same xs (4 * i) b.low-row 0 (omega arith)

    second : get_or (put_box xs i b) (4 * i + 1) 0 ≡ b.low_column
    unfolding put_box
    second =
        get_or-set_other three (4 * i + 3) (4 * i + 1) b.high-column 0 (λ e. omega arith) ∙
        get_or-set_other two (4 * i + 2) (4 * i + 1) b.high-row 0 (λ e. omega arith) ∙
        get_or-set_same one (4 * i + 1) b.low_column 0 (simp length-set (omega arith))

    third : get_or (put_box xs i b) (4 * i + 2) 0 ≡ b.high-row
    unfolding put_box
    third =
        get_or-set_other three (4 * i + 3) (4 * i + 2) b.high-column 0 (λ e. omega arith) ∙
        get_or-set_same two (4 * i + 2) b.high-row 0 (simp length-set (omega arith))

    fourth : get_or (put_box xs i b) (4 * i + 3) 0 ≡ b.high-column
    unfolding put_box
    fourth = get_or-set_same three (4 * i + 3) b.high-column 0 (simp length-set (omega arith))

    pub put_same : box_at (put_box xs i b) i ≡ b
    unfolding box_at
    put_same = box-ext _ _ first second third fourth

-- what is left as it was
pub kept-all : (xs : List ℕ) (i : ℕ) → Kept xs i xs
kept-all xs i = record { size = refl; kept = λ j l. refl }

pub kept-both : {xs ys zs : List ℕ} {i : ℕ} → Kept xs i ys → Kept ys i zs → Kept xs i zs
kept-both p q = record { size = q.size ∙ p.size; kept = λ j l. q.kept j l ∙ p.kept j l }

pub kept-later : {xs ys : List ℕ} {i k : ℕ} → i ≤ k → Kept xs i ys → Kept xs k ys
kept-later h p = record { size = p.size; kept = λ j l. p.kept j (omega arith) }

-- room for one of n boxes
pub room_at : (xs : List ℕ) (n i : ℕ) → Room xs n → i < n → Room xs (i + 1)
room_at xs n i r h = record { room = omega arith }

pub room-kept : {xs ys : List ℕ} {i n : ℕ} → Kept xs i ys → Room xs n → Room ys n
room-kept k r = record { room = rw k.size r.room }
