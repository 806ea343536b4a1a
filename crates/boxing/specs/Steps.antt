-- The faults of a map merged one after another, in a lent list. Assumes nothing.
use Rattle.std.specs.Prelude.{List, ◌++◌, ℕ, ◌+◌, ◌-◌, ◌*◌, ◌/◌, ◌%◌, ◌≤◌, ◌<◌, length, get_or}
use Rattle.mesh.specs.Mesh.{Mesh}
use Rattle.mesh.specs.Nodes.{is_bad}
use Rattle.mesh.specs.Blocks.{select}
use Rattle.theory_boxes.specs.Boxes.{Box, node_box}
use Rattle.theory_boxes.specs.Merging.{Merges}
use Rattle.box_lists.specs.Lists.{boxes_from, Room, Kept}
use Rattle.box_lists.specs.Merging.{Spread, Below}
use Rattle.boxing.specs.declared.Step.{Step}

-- index i of a map lies in row r
pub record OnRow (w : Mesh) (r i : ℕ) : Type 0 where
  pub row : r < w.rows
  pub from : r * w.columns ≤ i
  pub below : i < r * w.columns + w.columns

-- the boxes of the faults from index i of the map on
unfoldable pub faults_from : Mesh → ℕ → List Box
faults_from w i = select (λ j. is_bad (get_or w.map j 0)) (λ j. node_box (j / w.columns) (j % w.columns)) (length w.map - i) i

-- n boxes are far from each other and end no farther north than row r, and there is room for those of the faults from index i of the map on
pub record Ready (w : Mesh) (r : ℕ) (xs : List ℕ) (i n : ℕ) : Type 0 where
  pub spread : Spread xs n
  pub below : Below xs n r
  pub room : Room xs (n + length (faults_from w i))

-- The faults from index i of the map to before index j are merged with n boxes, which leaves k. Beyond the room for all nothing changed.
pub record Advances (w : Mesh) (r : ℕ) (xs : List ℕ) (i n j k : ℕ) (ys : List ℕ) : Type 0 where
  pub merges : Merges (boxes_from xs 0 n ++ faults_from w i) (boxes_from ys 0 k ++ faults_from w j)
  pub spread : Spread ys k
  pub below : Below ys k r
  pub beyond : Kept xs (4 * (n + length (faults_from w i))) ys

-- node i of row r is looked at, and perhaps some after it: x says where to go on, and how many boxes there are
pub record LooksAt (w : Mesh) (r : ℕ) (xs : List ℕ) (i n : ℕ) (x : Step) (ys : List ℕ) : Type 0 where
  pub done : Advances w r xs i n x.next x.boxes ys
  pub onward : i < x.next
  pub within : x.next ≤ r * w.columns + w.columns

-- all nodes of row r are looked at
abbrev pub MergesRow : Mesh → ℕ → List ℕ → ℕ → ℕ → List ℕ → Type 0
MergesRow w r xs n k ys = Advances w r xs (r * w.columns) n (r * w.columns + w.columns) k ys
