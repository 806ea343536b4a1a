-- The channels of a mesh, and which may follow which (document 02, E9). Assumes nothing.
use Rattle.std.specs.Prelude.{◌≡◌, Bool, true, false, ◌&&◌, ◌≢◌, ℕ}
use Rattle.mesh.specs.Mesh.{Mesh, on_mesh}
use Rattle.mesh.specs.declared.Heading.{Heading}
use Rattle.mesh.specs.Headings.{row_after, column_after, opposite}
use Rattle.mesh.specs.Turns.{turn_breaks, forbidden}
use Rattle.mesh.specs.Hops.{stays}

-- a channel: the directed link from the node (row, column) to its neighbour that way
pub record Channel : Type 0 where
  pub row : ℕ
  pub column : ℕ
  pub way : Heading

-- the node where it ends
unfoldable pub end_row : Channel → ℕ
end_row a = row_after a.way a.row

unfoldable pub end_column : Channel → ℕ
end_column a = column_after a.way a.column

-- it is a channel of the mesh: it starts there, and a hop along it stays there
unfoldable pub is_channel : Mesh → Channel → Bool
is_channel w a = on_mesh w a.row a.column && stays w.columns w.rows a.way a.row a.column

-- its reverse: the same link the other way
unfoldable pub reverse : Channel → Channel
reverse a = record { row = end_row a; column = end_column a; way = opposite a.way }

-- Channel b of the mesh may follow channel a; the columns that permit NW and SW are left open: `west`
pub record MayFollow (west : ℕ → Bool) (w : Mesh) (a b : Channel) : Type 0 where
  pub channel-a : is_channel w a ≡ true
  pub channel-b : is_channel w b ≡ true
  -- it starts where the other ends,
  pub row : b.row ≡ end_row a
  pub column : b.column ≡ end_column a
  -- isn't its reverse,
  pub no-reverse : b ≢ reverse a
  -- and the turn is permitted
  pub permitted : forbidden (turn_breaks west b.column a.way b.way) ≡ false
