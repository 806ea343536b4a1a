-- Mark blocks (document 01, "The four operations"). Assumes nothing.
use Rattle.std.specs.Prelude.{◌≡◌, List, [], ◌∷◌, ◌++◌, ℕ, ltb, length, Result, Ok, Err}
use Rattle.mesh.specs.declared.Refusal.{Refusal}
use Rattle.mesh.specs.declared.Marked.{Marked}
use Rattle.mesh.specs.Mesh.{mesh}
use Rattle.mesh.specs.Tests.{◌gives◌, first}
use Rattle.mesh.specs.Numbers.{number, Answer, refused, returned, answer, written}
use Rattle.mesh.specs.Rounds.{marked, rounds}
use Rattle.mesh.specs.Blocks.{blocks}
use Rattle.mesh.specs.Maps.{map_tests}

-- what it answers, in the paper's terms: the number of blocks
abbrev pub marked_answer : Result Marked Refusal → Answer
marked_answer (Ok m) = returned m.blocks
marked_answer (Err r) = refused (number r)

-- and the number of rounds
abbrev pub marked_rounds : Result Marked Refusal → Answer
marked_rounds (Ok m) = returned m.rounds
marked_rounds (Err r) = refused (number r)

-- refusals 1 to 5; 10 output shorter than the map
unfoldable pub mark_refusal : ℕ → ℕ → List ℕ → List ℕ → ℕ
mark_refusal columns rows map out = first (map_tests columns rows map ++ (ltb (length out) (length map) gives 10 ∷ []))

-- it returns the number of blocks and that of rounds (document 02, E7), and writes 0 safe, 1 faulty, 2 unsafe for each node
pub record MarksBlocks (columns rows : ℕ) (map out : List ℕ) (r : Result Marked Refusal) (after : List ℕ) : Type 0 where
  pub answers : marked_answer r ≡ answer (mark_refusal columns rows map out) (length (blocks (marked (mesh columns rows map))))
  pub counts : marked_rounds r ≡ answer (mark_refusal columns rows map out) (rounds (mesh columns rows map))
  pub writes : after ≡ written (mark_refusal columns rows map out) (marked (mesh columns rows map)).map out
