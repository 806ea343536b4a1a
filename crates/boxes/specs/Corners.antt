-- A box by its corners, and which box encloses which. Assumes nothing.
use Rattle.std.specs.Prelude.{Bool, ◌&&◌, ℕ, ◌+◌, leb}
use Rattle.theory_boxes.specs.Boxes.{Box}
use Rattle.boxes.specs.declared.Corners.{Corners}

-- the box of these corners
unfoldable pub box_from : Corners → Box
box_from x = record { low-row = x.south.0; low_column = x.west.0; high-row = x.north.0; high-column = x.east.0 }

-- a box of one row
unfoldable pub row_box : ℕ → ℕ → ℕ → Box
row_box r west east = record { low-row = r; low_column = west; high-row = r; high-column = east }

-- a box with the k rows north of it
unfoldable pub grown : ℕ → Box → Box
grown k b = record { low-row = b.low-row; low_column = b.low_column; high-row = b.high-row + k; high-column = b.high-column }

-- every node of a is one of b
unfoldable pub encloses : Box → Box → Bool
encloses b a =
    (leb b.low-row a.low-row && leb a.high-row b.high-row) && (leb b.low_column a.low_column && leb a.high-column b.high-column)
