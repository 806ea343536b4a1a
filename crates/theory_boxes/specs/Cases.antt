-- Worked maps by boxes, on 10 columns by 8 rows, by computation. Assumes nothing.
use Rattle.std.specs.Prelude.{Bool, true, ◌&&◌, List, [], ◌∷◌, ℕ, T, eqb, replicate}
use Rattle.mesh.specs.Mesh.{mesh}
use Rattle.mesh.specs.Tests.{first}
use Rattle.mesh.specs.Nodes.{is_bad, how_many}
use Rattle.mesh.specs.Rounds.{same_list}
use Rattle.mesh.specs.Blocks.{select}
use Rattle.mesh.specs.Maps.{bad_size, bad_length, some, bad_byte, allowed, misplaced_at, misplaced, map_tests}
use Rattle.mesh.specs.Cases.{fault_map}
use Rattle.theory_boxes.specs.Boxes.{node_box, fault_boxes, apart, columns_apart, rows_apart, close, around, close_to, some_close, joined, merge_two, merge_all, earlier, insert, sorted, boxes}
use Rattle.theory_boxes.specs.Boxing.{numbers, room_for, box_list, box_refusal}

pub data Case : Type 0 where
  -- the faults, and what is listed: four numbers for each box, then zeros
  lists : List (ℕ × ℕ) → List ℕ → Case
  -- columns, the faults and how long the list is; the refusal, or 0
  answers : ℕ → List (ℕ × ℕ) → ℕ → ℕ → Case

unfoldable pub holds : Case → Bool
holds (lists faults expect) = same_list (box_list (mesh 10 8 (fault_map faults))) expect
holds (answers columns faults room expect) = eqb (box_refusal columns 8 (fault_map faults) (replicate room 9)) expect

unfoldable pub all_hold : List Case → Bool
all_hold [] = true
all_hold (x ∷ xs) = holds x && all_hold xs

-- No fault. The starred maps of document 01: A, C, and those of one block of 3 nodes, one of 6, and two blocks. Boxes that are close only when others
-- have been merged; two boxes that begin in the same row; three boxes, one of two rows. What is refused: a list that is one number short, and what comes before that.
unfoldable pub worked : List Case
worked =
    lists [] [] ∷
    lists ((3, 4) ∷ (4, 5) ∷ []) (3 ∷ 4 ∷ 4 ∷ 5 ∷ 0 ∷ 0 ∷ 0 ∷ 0 ∷ []) ∷
    lists ((3, 3) ∷ (3, 6) ∷ []) (3 ∷ 3 ∷ 3 ∷ 3 ∷ 3 ∷ 6 ∷ 3 ∷ 6 ∷ []) ∷
    lists ((3, 4) ∷ (3, 6) ∷ []) (3 ∷ 4 ∷ 3 ∷ 6 ∷ 0 ∷ 0 ∷ 0 ∷ 0 ∷ []) ∷
    lists ((2, 4) ∷ (3, 6) ∷ []) (2 ∷ 4 ∷ 3 ∷ 6 ∷ 0 ∷ 0 ∷ 0 ∷ 0 ∷ []) ∷
    lists ((2, 4) ∷ (4, 4) ∷ []) (2 ∷ 4 ∷ 2 ∷ 4 ∷ 4 ∷ 4 ∷ 4 ∷ 4 ∷ []) ∷
    lists ((1, 2) ∷ (4, 2) ∷ (3, 4) ∷ (2, 6) ∷ []) (1 ∷ 2 ∷ 4 ∷ 6 ∷ 0 ∷ 0 ∷ 0 ∷ 0 ∷ 0 ∷ 0 ∷ 0 ∷ 0 ∷ 0 ∷ 0 ∷ 0 ∷ 0 ∷ []) ∷
    lists ((1, 7) ∷ (2, 7) ∷ (2, 2) ∷ (1, 4) ∷ []) (1 ∷ 2 ∷ 2 ∷ 4 ∷ 1 ∷ 7 ∷ 2 ∷ 7 ∷ 0 ∷ 0 ∷ 0 ∷ 0 ∷ 0 ∷ 0 ∷ 0 ∷ 0 ∷ []) ∷
    lists ((1, 2) ∷ (1, 5) ∷ (2, 2) ∷ (5, 3) ∷ []) (1 ∷ 2 ∷ 2 ∷ 2 ∷ 1 ∷ 5 ∷ 1 ∷ 5 ∷ 5 ∷ 3 ∷ 5 ∷ 3 ∷ 0 ∷ 0 ∷ 0 ∷ 0 ∷ []) ∷
    answers 10 [] 0 0 ∷
    answers 10 ((3, 4) ∷ (4, 5) ∷ []) 8 0 ∷
    answers 10 ((3, 4) ∷ (4, 5) ∷ []) 7 10 ∷
    answers 10 ((3, 4) ∷ (4, 8) ∷ []) 7 5 ∷
    answers 11 ((3, 4) ∷ (4, 5) ∷ []) 7 3 ∷
    answers 65 ((3, 4) ∷ (4, 5) ∷ []) 7 1 ∷
    []

pub worked-hold : T (all_hold worked)
unfolding worked all_hold holds first is_bad how_many same_list select bad_size bad_length some bad_byte allowed misplaced_at misplaced map_tests node_box fault_boxes
    apart columns_apart rows_apart close around close_to some_close joined merge_two merge_all earlier insert sorted boxes numbers room_for box_list box_refusal
worked-hold = tt
