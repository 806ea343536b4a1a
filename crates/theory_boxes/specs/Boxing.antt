-- Blocks from rectangles (document 02, E10): what is answered and written. Assumes nothing.
use Rattle.std.specs.Prelude.{◌≡◌, List, [], ◌∷◌, ◌++◌, ℕ, ◌-◌, ◌*◌, ltb, length, replicate, Result, Ok, Err}
use Rattle.mesh.specs.declared.Refusal.{Refusal}
use Rattle.mesh.specs.Mesh.{Mesh, mesh}
use Rattle.mesh.specs.Tests.{◌gives◌, first}
use Rattle.mesh.specs.Numbers.{number, Answer, refused, returned, answer, written}
use Rattle.mesh.specs.Nodes.{how_many}
use Rattle.mesh.specs.Maps.{map_tests}
use Rattle.theory_boxes.specs.Boxes.{Box, boxes}

-- the numbers of a list of boxes, four each: lowest row, lowest column, highest row, highest column
unfoldable pub numbers : List Box → List ℕ
numbers [] = []
numbers (b ∷ bs) = b.low-row ∷ b.low_column ∷ b.high-row ∷ b.high-column ∷ numbers bs

-- four numbers for each fault of a map
unfoldable pub room_for : List ℕ → ℕ
room_for map = 4 * how_many 1 map

-- the boxes' numbers; places after the last box, up to four for each fault, are 0
unfoldable pub box_list : Mesh → List ℕ
box_list w = numbers (boxes w) ++ replicate (room_for w.map - length (numbers (boxes w))) 0

-- what it answers, in the paper's terms
abbrev pub boxed_answer : Result ℕ Refusal → Answer
boxed_answer (Ok n) = returned n
boxed_answer (Err r) = refused (number r)

-- refusals 1 to 5; 10 when the list is shorter than four numbers for each fault
unfoldable pub box_refusal : ℕ → ℕ → List ℕ → List ℕ → ℕ
box_refusal columns rows map list = first (map_tests columns rows map ++ (ltb (length list) (room_for map) gives 10 ∷ []))

-- its promise: it returns the number of boxes, and writes them
pub record ListsBoxes (columns rows : ℕ) (map list : List ℕ) (r : Result ℕ Refusal) (after : List ℕ) : Type 0 where
  pub answers : boxed_answer r ≡ answer (box_refusal columns rows map list) (length (boxes (mesh columns rows map)))
  pub writes : after ≡ written (box_refusal columns rows map list) (box_list (mesh columns rows map)) list
