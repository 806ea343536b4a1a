-- Blocks from rectangles (document 02, E10): boxes, when two are replaced by one, and the list that is left. Assumes nothing.
use Rattle.std.specs.Prelude.{Bool, false, cond, ◌&&◌, ◌||◌, List, [], ◌∷◌, ℕ, zero, suc, ◌+◌, ◌-◌, ◌/◌, ◌%◌, ◌≤◌, min, max, ltb, eqb, length, get_or}
use Rattle.mesh.specs.Mesh.{Mesh}
use Rattle.mesh.specs.Nodes.{is_bad}
use Rattle.mesh.specs.Blocks.{Block, select}

-- Boxes

-- a box, by its lowest and highest numbers
pub record Box : Type 0 where
  pub low-row : ℕ
  pub low_column : ℕ
  pub high-row : ℕ
  pub high-column : ℕ

-- (r, c) is a node of b
pub record In (b : Box) (r c : ℕ) : Type 0 where
  pub south : b.low-row ≤ r
  pub north : r ≤ b.high-row
  pub west : b.low_column ≤ c
  pub east : c ≤ b.high-column

-- a box of one node
unfoldable pub node_box : ℕ → ℕ → Box
node_box r c = record { low-row = r; low_column = c; high-row = r; high-column = c }

-- each fault is a box of one node
unfoldable pub fault_boxes : Mesh → List Box
fault_boxes w =
    select (λ i. is_bad (get_or w.map i 0)) (λ i. node_box (i / w.columns) (i % w.columns)) (length w.map) 0

-- Two boxes that are close

-- how far the numbers low to high and low' to high' are apart: the difference of the nearest ones, 0 where they overlap
unfoldable pub apart : ℕ → ℕ → ℕ → ℕ → ℕ
apart low high low' high' = max (low' - high) (low - high')

-- how far two boxes are apart in column
unfoldable pub columns_apart : Box → Box → ℕ
columns_apart a b = apart a.low_column a.high-column b.low_column b.high-column

-- and in row
unfoldable pub rows_apart : Box → Box → ℕ
rows_apart a b = apart a.low-row a.high-row b.low-row b.high-row

-- less than 3 apart in column and less than 2 apart in row
unfoldable pub close : Box → Box → Bool
close a b = ltb (columns_apart a b) 3 && ltb (rows_apart a b) 2

-- the one box around both
unfoldable pub around : Box → Box → Box
around a b =
    record {
      low-row = min a.low-row b.low-row;
      low_column = min a.low_column b.low_column;
      high-row = max a.high-row b.high-row;
      high-column = max a.high-column b.high-column;
    }

-- Merging

-- some box of the list is that close to a
unfoldable pub close_to : Box → List Box → Bool
close_to a [] = false
close_to a (b ∷ bs) = close a b || close_to a bs

-- some two boxes of the list are that close
unfoldable pub some_close : List Box → Bool
some_close [] = false
some_close (a ∷ bs) = close_to a bs || some_close bs

-- a and the first box that is close to it are replaced by the one around both
unfoldable pub joined : Box → List Box → List Box
joined a [] = a ∷ []
joined a (b ∷ bs) =
    let rest = joined a bs in
    cond (close a b) (around a b ∷ bs) (b ∷ rest)

-- two boxes that are close, the first such, are replaced by the one around both: a shorter list
unfoldable pub merge_two : List Box → List Box
merge_two [] = []
merge_two (a ∷ bs) =
    let rest = merge_two bs in
    cond (close_to a bs) (joined a bs) (a ∷ rest)

-- The same with the shorter list, until none are that close; at most k times. Each time leaves a box less, so their number is enough.
unfoldable pub merge_all : ℕ → List Box → List Box
merge_all zero bs = bs
merge_all (suc k) bs =
    let rest = merge_all k (merge_two bs) in
    cond (some_close bs) rest bs

-- The list

-- by lowest row, then lowest column
unfoldable pub earlier : Box → Box → Bool
earlier a b = ltb a.low-row b.low-row || (eqb a.low-row b.low-row && ltb a.low_column b.low_column)

-- a put before the first box that it is earlier than
unfoldable pub insert : Box → List Box → List Box
insert a [] = a ∷ []
insert a (b ∷ bs) =
    let rest = insert a bs in
    cond (earlier a b) (a ∷ b ∷ bs) (b ∷ rest)

-- all in that order
unfoldable pub sorted : List Box → List Box
sorted [] = []
sorted (a ∷ bs) = insert a (sorted bs)

-- the boxes of a fault map
unfoldable pub boxes : Mesh → List Box
boxes w = sorted (merge_all (length (fault_boxes w)) (fault_boxes w))

-- the box of a block
unfoldable pub box_of : Block → Box
box_of b =
    record {
      low-row = b.row;
      low_column = b.column;
      high-row = b.height + b.row - 1;
      high-column = b.width + b.column - 1;
    }
