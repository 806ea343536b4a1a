-- "Blocks from rectangles" in numbers. Assumes nothing.
use Rattle.std.specs.Prelude.{◌≡◌, List, ℕ, length}
use Rattle.mesh.specs.Mesh.{mesh}
use Rattle.mesh.specs.Numbers.{answer, answer_code, written}
use Rattle.theory_boxes.specs.Boxes.{boxes}
use Rattle.theory_boxes.specs.Boxing.{box_list, box_refusal}

-- its promise: x is the number of boxes, or 65,536 plus the refusal
pub record BoxesInNumbers (columns rows : ℕ) (map list : List ℕ) (x : ℕ) (list' : List ℕ) : Type 0 where
  pub answers : x ≡ answer_code (answer (box_refusal columns rows map list) (length (boxes (mesh columns rows map))))
  pub writes : list' ≡ written (box_refusal columns rows map list) (box_list (mesh columns rows map)) list
