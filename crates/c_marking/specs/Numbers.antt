-- "Mark blocks" in numbers. Assumes nothing.
use Rattle.std.specs.Prelude.{◌≡◌, List, ℕ, length}
use Rattle.mesh.specs.Mesh.{mesh}
use Rattle.mesh.specs.Numbers.{answer, answer_code, written}
use Rattle.mesh.specs.Rounds.{marked, rounds}
use Rattle.mesh.specs.Blocks.{blocks}
use Rattle.mesh.specs.Marking.{mark_refusal}
use Rattle.numbers.specs.Returned.{put_returned}

-- its promise: x is the number of blocks, or 65,536 plus the refusal; the number of rounds stands first in lent
pub record MarksInNumbers (columns rows : ℕ) (map out lent : List ℕ) (x : ℕ) (out' lent' : List ℕ) : Type 0 where
  pub answers : x ≡ answer_code (answer (mark_refusal columns rows map out) (length (blocks (marked (mesh columns rows map)))))
  pub counts : lent' ≡ put_returned (answer (mark_refusal columns rows map out) (rounds (mesh columns rows map))) lent
  pub writes : out' ≡ written (mark_refusal columns rows map out) (marked (mesh columns rows map)).map out
