-- A mesh and its places (document 01, "Mesh and letters"). A place is written (r, c): row r, column c. Assumes nothing.
use Rattle.std.specs.Prelude.{Bool, ◌&&◌, List, ℕ, ltb}
use Rattle.mesh.specs.declared.Place.{Place}

-- a mesh and a number for each of its nodes, row 0 first: 0 safe, 1 faulty, 2 unsafe; a fault map has no 2
pub record Mesh : Type 0 where
  pub columns : ℕ
  pub rows : ℕ
  pub map : List ℕ

abbrev pub mesh : ℕ → ℕ → List ℕ → Mesh
mesh columns rows map = record { columns = columns; rows = rows; map = map }

-- (r, c) is a place of the mesh
unfoldable pub on_mesh : Mesh → ℕ → ℕ → Bool
on_mesh w r c = ltb r w.rows && ltb c w.columns

-- the place (r, c) as the operations take it
abbrev pub place : ℕ → ℕ → Place
place r c = record { row = record { 0 = r }; column = record { 0 = c } }
