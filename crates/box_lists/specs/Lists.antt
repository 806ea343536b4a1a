-- Boxes in a lent list, four numbers each: lowest row, lowest column, highest row, highest column. Assumes nothing.
use Rattle.std.specs.Prelude.{◌≡◌, List, [], ◌∷◌, ℕ, zero, suc, ◌+◌, ◌*◌, ◌≤◌, length, get_or, set}
use Rattle.theory_boxes.specs.Boxes.{Box}

-- box i of a list
unfoldable pub box_at : List ℕ → ℕ → Box
box_at xs i =
    record {
      low-row = get_or xs (4 * i) 0;
      low_column = get_or xs (4 * i + 1) 0;
      high-row = get_or xs (4 * i + 2) 0;
      high-column = get_or xs (4 * i + 3) 0;
    }

-- the list with b as box i
unfoldable pub put_box : List ℕ → ℕ → Box → List ℕ
put_box xs i b =
    set (set (set (set xs (4 * i) b.low-row) (4 * i + 1) b.low_column) (4 * i + 2) b.high-row) (4 * i + 3) b.high-column

-- n boxes, from box i on
unfoldable pub boxes_from : List ℕ → ℕ → ℕ → List Box
boxes_from xs i zero = []
boxes_from xs i (suc n) = box_at xs i ∷ boxes_from xs (suc i) n

-- the list has room for n boxes
pub record Room (xs : List ℕ) (n : ℕ) : Type 0 where
  pub room : 4 * n ≤ length xs

-- the numbers from index i on are as they were
pub record Kept (xs : List ℕ) (i : ℕ) (ys : List ℕ) : Type 0 where
  pub size : length ys ≡ length xs
  pub kept : (j : ℕ) → i ≤ j → get_or ys j 0 ≡ get_or xs j 0
