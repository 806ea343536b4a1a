-- What looking up a node asks. Assumes nothing.
use Rattle.std.specs.Prelude.{◌≡◌, List, ℕ, ◌*◌, ◌≤◌, ◌<◌, length}
use Rattle.mesh.specs.declared.Place.{Place}
use Rattle.mesh.specs.Mesh.{Mesh}

-- a map of the size of its mesh, which has at most 64 columns and rows
pub record Sized (columns rows : ℕ) (map : List ℕ) : Type 0 where
  pub few-columns : columns ≤ 64
  pub few-rows : rows ≤ 64
  pub size : length map ≡ columns * rows

-- a place of a mesh
pub record OnMesh (w : Mesh) (p : Place) : Type 0 where
  pub row : p.row.0 < w.rows
  pub column : p.column.0 < w.columns
