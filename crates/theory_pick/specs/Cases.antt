-- Worked picks on the maps of document 01, 10 columns by 8 rows, by computation. Assumes nothing.
use Rattle.std.specs.Prelude.{Bool, true, false, ◌&&◌, List, [], ◌∷◌, ℕ, T, eqb, replicate}
use Prim.Native.String.{String}
use Rattle.mesh.specs.declared.Network.{Network}
use Rattle.mesh.specs.declared.Network.TheVariants.{First, Second}
use Rattle.mesh.specs.Mesh.{on_mesh}
use Rattle.mesh.specs.Headings.{row_after, column_after, letters}
use Rattle.mesh.specs.Parity.{turns_west}
use Rattle.mesh.specs.Tests.{first}
use Rattle.mesh.specs.Numbers.{same_network, answer, written}
use Rattle.mesh.specs.Nodes.{is_bad, bad, ahead, upright, rule_a, rule_b, unsafe, near_in_row}
use Rattle.mesh.specs.Rounds.{become, advance, round, same_list, settle}
use Rattle.mesh.specs.Blocks.{run, corner, block_at, select, blocks, reaches, some_block}
use Rattle.mesh.specs.Rules.{blocked, side, toward, own, stopped, again, at_destination, in_row, leaving, across, nearing, other_row, hop}
use Rattle.mesh.specs.Hops.{moved}
use Rattle.mesh.specs.Walk.{arrived, hop_at, walk, shut_in, meets_edge, distance, detours, bound}
use Rattle.mesh.specs.Maps.{bad_size, bad_length, some, bad_byte, allowed, misplaced_at, misplaced, map_tests}
use Rattle.mesh.specs.Requests.{off_mesh, in_block, block_near_in_row, unserved, place_tests, trip_tests, request_tests}
use Rattle.mesh.specs.Routing.{hops_of, send_tests, route_refusal, route_output}
use Rattle.mesh.specs.Cases.{A, B, D, bytes, fault_map, place}
use Rattle.theory_pick.specs.Picking.{Pick, route, none, better, picked, part, lent_number}

pub data Case : Type 0 where
  -- the faults, the source and the destination, how long the buffers are; the network whose route is picked, and the letters handed back
  picks : List (ℕ × ℕ) → ℕ × ℕ → ℕ × ℕ → ℕ → ℕ → Network → String → Case
  -- likewise; the refusal
  refuses : List (ℕ × ℕ) → ℕ × ℕ → ℕ × ℕ → ℕ → ℕ → ℕ → Case

-- it is the route of that network
abbrev pub is_route : Pick → Network → Bool
is_route (route m n) network = same_network m network
is_route (none k) network = false

unfoldable pub holds : Case → Bool
holds (picks faults s d m n network text) =
    let map = fault_map faults in
    let one : List ℕ = replicate m 0 in
    let two : List ℕ = replicate n 0 in
    let pick = picked 10 8 map (place s) (place d) one two in
    is_route pick network
    && (same_list (part pick (route_output First 10 8 map (place s) (place d) one) (route_output Second 10 8 map (place s) (place d) two)) (bytes text)
    && eqb (lent_number pick) 0)
holds (refuses faults s d m n expect) =
    eqb (lent_number (picked 10 8 (fault_map faults) (place s) (place d) (replicate m 0) (replicate n 0))) expect

unfoldable pub all_hold : List Case → Bool
all_hold [] = true
all_hold (x ∷ xs) = holds x && all_hold xs

-- The second network's route is shorter; the first's is; a tie. Only the second is served, since the source is shut in on the first; only the
-- first is; likewise for a source in column 0. The first's buffer is too short, and then the second's; the winner's is just long enough. No hop
-- at all. Both refuse, for the same reason or for two.
unfoldable pub worked : List Case
worked =
    picks A (1, 5) (6, 5) 20 20 Second "NWWNNNNEE" ∷
    picks A (6, 2) (1, 2) 20 20 First "SSSSS" ∷
    picks A (3, 0) (3, 9) 20 20 First "EEENNEEEESSEE" ∷
    picks B (4, 5) (6, 5) 20 20 Second "NN" ∷
    picks D (4, 4) (6, 4) 20 20 First "NN" ∷
    picks A (3, 0) (4, 9) 20 20 First "NEEENEEEESEE" ∷
    picks A (3, 0) (3, 9) 12 20 Second "EENNEEEESSEEE" ∷
    picks A (1, 5) (6, 5) 11 8 First "WNWWNNNNEEE" ∷
    picks A (1, 5) (6, 5) 0 9 Second "NWWNNNNEE" ∷
    picks A (0, 0) (0, 0) 0 0 First "" ∷
    refuses B (4, 5) (6, 5) 20 1 9 ∷
    refuses D (4, 4) (6, 4) 1 20 10 ∷
    refuses A (1, 5) (6, 5) 10 8 10 ∷
    refuses A (1, 5) (4, 6) 20 20 8 ∷
    refuses A (1, 5) (8, 5) 20 20 6 ∷
    refuses ((0, 4) ∷ []) (1, 5) (6, 5) 20 20 5 ∷
    []

pub worked-hold : T (all_hold worked)
unfolding worked all_hold holds A B D bytes on_mesh row_after column_after letters turns_west first answer written is_bad bad ahead
    upright rule_a rule_b unsafe become advance round same_list settle run corner block_at select blocks reaches some_block near_in_row
    blocked side toward own stopped again at_destination in_row leaving across nearing other_row hop moved arrived hop_at walk
    shut_in meets_edge distance detours bound bad_size bad_length some bad_byte allowed misplaced_at misplaced map_tests off_mesh in_block block_near_in_row
    unserved place_tests trip_tests request_tests hops_of send_tests route_refusal better part
worked-hold = tt
