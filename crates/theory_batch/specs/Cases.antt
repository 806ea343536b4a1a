-- Worked tables on map A of document 01, 10 columns by 8 rows, on either network, by computation. Assumes nothing.
use Rattle.std.specs.Prelude.{Bool, true, ◌&&◌, List, [], ◌∷◌, ℕ, T, eqb, replicate}
use Prim.Native.String.{String}
use Rattle.mesh.specs.declared.Network.{Network}
use Rattle.mesh.specs.declared.Network.TheVariants.{First, Second}
use Rattle.mesh.specs.Mesh.{on_mesh}
use Rattle.mesh.specs.Headings.{row_after, column_after, letters}
use Rattle.mesh.specs.Parity.{turns_west}
use Rattle.mesh.specs.Tests.{first}
use Rattle.mesh.specs.Numbers.{answer, refusal_code}
use Rattle.mesh.specs.Nodes.{is_bad, bad, ahead, upright, rule_a, rule_b, unsafe, near_in_row}
use Rattle.mesh.specs.Rounds.{become, advance, round, same_list, settle}
use Rattle.mesh.specs.Blocks.{run, corner, block_at, select, blocks, reaches, some_block}
use Rattle.mesh.specs.Rules.{blocked, side, toward, own, stopped, again, at_destination, in_row, leaving, across, nearing, other_row, hop}
use Rattle.mesh.specs.Hops.{moved}
use Rattle.mesh.specs.Walk.{arrived, hop_at, walk, shut_in, meets_edge, distance, detours, bound}
use Rattle.mesh.specs.Maps.{bad_size, bad_length, some, bad_byte, allowed, misplaced_at, misplaced, map_tests}
use Rattle.mesh.specs.Requests.{off_mesh, in_block, block_near_in_row, unserved, place_tests, trip_tests, request_tests}
use Rattle.mesh.specs.Routing.{hops_of, send_tests, route_refusal}
use Rattle.mesh.specs.Cases.{A, bytes, fault_map}
use Rattle.theory_batch.specs.Sends.{sends_of}
use Rattle.theory_batch.specs.Batch.{unless_refused, call, route_call, calls, answers_of, letters_of, batch, batch_refusal}

pub data Case : Type 0 where
  -- the network, the sends, how long the output is, the answers, and the letters
  answers : Network → List ℕ → ℕ → List ℕ → String → Case
  -- the faults, the list of sends, how long the answer list is, and the refusal, or 0
  refuses : List (ℕ × ℕ) → List ℕ → ℕ → ℕ → Case

unfoldable pub holds : Case → Bool
holds (answers network sends room expect text) =
    let cs = batch network 10 8 (fault_map A) sends (replicate room 0) in
    same_list (answers_of cs) expect && same_list (letters_of cs) (bytes text)
holds (refuses faults sends room expect) = eqb (batch_refusal 10 8 (fault_map faults) sends (replicate room 0)) expect

unfoldable pub all_hold : List Case → Bool
all_hold [] = true
all_hold (x ∷ xs) = holds x && all_hold xs

-- 11 hops, 13 hops, to the side of a block, 2 hops
unfoldable pub table : List ℕ
table = 1 ∷ 5 ∷ 6 ∷ 5 ∷ 3 ∷ 0 ∷ 3 ∷ 9 ∷ 1 ∷ 1 ∷ 4 ∷ 6 ∷ 1 ∷ 1 ∷ 1 ∷ 3 ∷ []

-- to the row above a block, to its sides, to the row below it
unfoldable pub near : List ℕ
near = 1 ∷ 5 ∷ 5 ∷ 4 ∷ 1 ∷ 5 ∷ 3 ∷ 3 ∷ 1 ∷ 5 ∷ 4 ∷ 7 ∷ 6 ∷ 4 ∷ 2 ∷ 5 ∷ []

-- With room for all; where the second doesn't fit and the last, which is shorter, does; where one byte lacks for that; without room; no sends;
-- sends near a block; the first ones on the second network, with no room for the last.
-- Then lists that aren't whole sends, answer lists that are too short, and both with a fault where none is allowed.
unfoldable pub worked : List Case
worked =
    answers First table 26 (11 ∷ 13 ∷ 65544 ∷ 2 ∷ []) "WNWWNNNNEEEEEENNEEEESSEEEE" ∷
    answers First table 23 (11 ∷ 65546 ∷ 65544 ∷ 2 ∷ []) "WNWWNNNNEEEEE" ∷
    answers First table 12 (11 ∷ 65546 ∷ 65544 ∷ 65546 ∷ []) "WNWWNNNNEEE" ∷
    answers First table 0 (65546 ∷ 65546 ∷ 65544 ∷ 65546 ∷ []) "" ∷
    answers First [] 26 [] "" ∷
    answers First near 20 (9 ∷ 65544 ∷ 65544 ∷ 9 ∷ []) "WNWWNNNEESWWSSSEEE" ∷
    answers Second table 22 (9 ∷ 13 ∷ 65544 ∷ 65546 ∷ []) "NWWNNNNEEEENNEEEESSEEE" ∷
    refuses A table 4 0 ∷
    refuses A table 3 18 ∷
    refuses A (1 ∷ table) 5 18 ∷
    refuses A [] 0 0 ∷
    refuses A (1 ∷ []) 0 18 ∷
    refuses ((0, 4) ∷ []) table 3 5 ∷
    []

pub worked-hold : T (all_hold worked)
unfolding worked table near all_hold holds A bytes on_mesh row_after column_after letters turns_west first answer refusal_code is_bad bad ahead
    upright rule_a rule_b unsafe become advance round same_list settle run corner block_at select blocks reaches some_block near_in_row
    blocked side toward own stopped again at_destination in_row leaving across nearing other_row hop moved arrived hop_at walk
    shut_in meets_edge distance detours bound bad_size bad_length some bad_byte allowed misplaced_at misplaced map_tests off_mesh in_block block_near_in_row
    unserved place_tests trip_tests request_tests hops_of send_tests route_refusal sends_of unless_refused call route_call calls
    answers_of letters_of batch_refusal
worked-hold = tt
