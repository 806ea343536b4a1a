-- Boxes of a list that are far from each other, and one more that is merged with them. Assumes nothing.
use Rattle.std.specs.Prelude.{◌≡◌, true, false, Option, Some, None, List, ◌∷◌, ℕ, suc, ◌+◌, ◌*◌, ◌≤◌, ◌<◌}
use Rattle.theory_boxes.specs.Boxes.{Box, close}
use Rattle.theory_boxes.specs.Merging.{Merges}
use Rattle.box_lists.specs.Lists.{box_at, boxes_from, Kept}

-- of n boxes no two are close, none ends north of a later one, and each has a row
pub record Spread (xs : List ℕ) (n : ℕ) : Type 0 where
  pub far : (i j : ℕ) → i < j → j < n → close (box_at xs i) (box_at xs j) ≡ false
  pub rising : (i j : ℕ) → i < j → j < n → (box_at xs i).high-row ≤ (box_at xs j).high-row
  pub tall : (i : ℕ) → i < n → (box_at xs i).low-row ≤ (box_at xs i).high-row

-- none of n boxes ends north of row r
pub record Below (xs : List ℕ) (n r : ℕ) : Type 0 where
  pub below : (i : ℕ) → i < n → (box_at xs i).high-row ≤ r

-- none of n boxes ends north of a, which has a row
pub record Ends (xs : List ℕ) (n : ℕ) (a : Box) : Type 0 where
  pub others : Below xs n a.high-row
  pub tall : a.low-row ≤ a.high-row

-- a box that is close to a stands there; or none of n is close
pub record Finds (xs : List ℕ) (n : ℕ) (a : Box) (found : Option ℕ) : Type 0 where
  pub hit : (j : ℕ) → found ≡ Some j → (j < n) × (close a (box_at xs j) ≡ true)
  pub none : found ≡ None → (j : ℕ) → j < n → close a (box_at xs j) ≡ false

-- box j of n is taken out, and beyond the n nothing changed
pub record Removes (xs : List ℕ) (j n : ℕ) (ys : List ℕ) : Type 0 where
  pub before : (k : ℕ) → k < j → box_at ys k ≡ box_at xs k
  pub after : (k : ℕ) → j ≤ k → k + 1 < n → box_at ys k ≡ box_at xs (suc k)
  pub beyond : Kept xs (4 * n) ys

-- a is merged with n boxes, which leaves r that are far from each other; beyond n boxes and one more nothing changed
pub record TakesIn (xs : List ℕ) (n : ℕ) (a : Box) (r : ℕ) (ys : List ℕ) : Type 0 where
  pub merges : Merges (a ∷ boxes_from xs 0 n) (boxes_from ys 0 r)
  pub spread : Spread ys r
  pub below : Below ys r a.high-row
  pub beyond : Kept xs (4 * (n + 1)) ys
