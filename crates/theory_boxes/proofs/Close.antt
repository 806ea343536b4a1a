-- Boxes that are close, told by their numbers, and the box around two. Assumes nothing.
use Rattle.std.proofs.Common.{◌≡◌, inl, inr, true, false, ℕ, ◌+◌, ◌-◌, ◌≤◌, ◌<◌, max, arith, ltb-true, lt-ltb, ltb}
use Rattle.std.proofs.lemmas.Bool.{cases_Bool, and_parts, and_from}
use Rattle.mesh.proofs.Bools.{true-false, bool-ext}
use Rattle.theory_boxes.specs.Boxes.{Box, apart, columns_apart, rows_apart, close, around}

-- less than 3 apart in column and less than 2 apart in row
pub record Close (a b : Box) : Type 0 where
  pub east : b.low_column < a.high-column + 3
  pub west : a.low_column < b.high-column + 3
  pub north : b.low-row < a.high-row + 2
  pub south : a.low-row < b.high-row + 2

-- every node of a is one of b
pub record Encloses (b a : Box) : Type 0 where
  pub south : b.low-row ≤ a.low-row
  pub north : a.high-row ≤ b.high-row
  pub west : b.low_column ≤ a.low_column
  pub east : a.high-column ≤ b.high-column

-- ranges of numbers less than so far apart
module _ (low high low' high' limit : ℕ) where
  near-told : ltb (apart low high low' high') limit ≡ true → (low' < high + limit) × (low < high' + limit)
  unfolding apart
  near-told e = let h : max (low' - high) (low - high') < limit = ltb-true _ _ e in omega arith

  near-true : 0 < limit → low' < high + limit → low < high' + limit → ltb (apart low high low' high') limit ≡ true
  unfolding apart
  near-true h p q = lt-ltb (max (low' - high) (low - high')) limit (omega arith)

module _ (a b : Box) where
  pub close-told : close a b ≡ true → Close a b
  unfolding close columns_apart rows_apart
  close-told e =
      let (p, q) = and_parts _ _ e in
      let c = near-told a.low_column a.high-column b.low_column b.high-column _ p in
      let r = near-told a.low-row a.high-row b.low-row b.high-row _ q in
      omega arith

  pub close-true : Close a b → close a b ≡ true
  unfolding close columns_apart rows_apart
  close-true k =
      and_from _ _
      (near-true a.low_column a.high-column b.low_column b.high-column _ (omega arith) (omega arith) (omega arith))
      (near-true a.low-row a.high-row b.low-row b.high-row _ (omega arith) (omega arith) (omega arith))

  pub far-told : close a b ≡ false → Close a b → ⊥
  far-told e k = true-false (close-true k) e

  pub far-true : (Close a b → ⊥) → close a b ≡ false
  far-true h = elim (cases_Bool (close a b)) [ inl e ↦ absurd (h (close-told e)) | inr e ↦ e ]

  pub around-first : Encloses (around a b) a
  unfolding around
  around-first = omega arith

  pub around-second : Encloses (around a b) b
  unfolding around
  around-second = omega arith

close-sym : {a b : Box} → Close a b → Close b a
close-sym k = omega arith

pub close-swap : (a b : Box) → close a b ≡ close b a
close-swap a b = bool-ext _ _ (λ e. close-true b a (close-sym (close-told a b e))) (λ e. close-true a b (close-sym (close-told b a e)))

pub box-ext : (a b : Box) → a.low-row ≡ b.low-row → a.low_column ≡ b.low_column →
    a.high-row ≡ b.high-row → a.high-column ≡ b.high-column → a ≡ b
box-ext a b p q r s = rw (p, q, r, s)

-- the box around a box that lies in the other is the other
pub around-enclosed : (a b : Box) → b.low-row ≤ a.low-row → a.high-row ≤ b.high-row →
    b.low_column ≤ a.low_column → a.high-column ≤ b.high-column → around a b ≡ b
unfolding around
around-enclosed a b s n w e = box-ext (around a b) b (omega arith) (omega arith) (omega arith) (omega arith)
