-- The starred bench cases of document 01, on 10 columns by 8 rows, and the one of document 02, E4, in one list with one claim; and in others of
-- their own the rounds of a marking, what judging says of turns, which destinations near a block are refused, and the second network. Assumes
-- nothing.
use Rattle.std.specs.Prelude.{Bool, true, ◌&&◌, List, [], ◌∷◌, ℕ, ◌+◌, ◌-◌, ◌*◌, T, eqb, length, set, replicate}
use Prim.Native.String as Text
use Prim.Native.String.{String}
use Prim.Native.Char.{code}
use Rattle.mesh.specs.Mesh as places
use Rattle.mesh.specs.Mesh.{mesh, on_mesh}
use Rattle.mesh.specs.declared.Network.{Network}
use Rattle.mesh.specs.declared.Network.TheVariants.{First, Second}
use Rattle.mesh.specs.declared.Place.{Place}
use Rattle.mesh.specs.Headings.{row_after, column_after, opposite, letters, same, named}
use Rattle.mesh.specs.Parity.{turns_west}
use Rattle.mesh.specs.Tests.{first}
use Rattle.mesh.specs.Nodes.{is_bad, bad, ahead, upright, rule_a, rule_b, unsafe, near_in_row}
use Rattle.mesh.specs.Rounds.{become, advance, round, same_list, settle, marked, rounds}
use Rattle.mesh.specs.Blocks.{Block, run, corner, block_at, select, blocks, reaches, on_ring, some_block}
use Rattle.mesh.specs.Turns.{breaks, turn_breaks, hop_breaks, reverses, turns_back}
use Rattle.mesh.specs.Rules.{blocked, side, toward, own, stopped, again, at_destination, in_row, leaving, across, nearing, other_row, hop, trip_on}
use Rattle.mesh.specs.Hops.{moved, stays, fresh}
use Rattle.mesh.specs.Walk.{arrived, hop_at, walk, shut_in, meets_edge, distance, detours, bound}
use Rattle.mesh.specs.Maps.{bad_size, bad_length, some, bad_byte, allowed, misplaced_at, misplaced, map_tests}
use Rattle.mesh.specs.Requests.{off_mesh, in_block, block_near_in_row, unserved, place_tests, trip_tests, request_tests}
use Rattle.mesh.specs.Routing.{hops_of, send_tests, route_refusal}
use Rattle.mesh.specs.Judging.{hop_tests, letter_mistake, follow, Verdict, unless, judge, verdict_code, verdict_index, judge_from, judgement}

-- faults by row and column, (r, c), and the map that they make
abbrev pub fault_map : List (ℕ × ℕ) → List ℕ
fault_map [] = replicate 80 0
fault_map (p ∷ more) = set (fault_map more) (p.0 * 10 + p.1) 1

pub data Case : Type 0 where
  -- the faults, and the blocks that they make: rows from, to, columns from, to, one block after the other
  makes : List (ℕ × ℕ) → List ℕ → Case
  -- the faults, and the number of rounds of their marking
  counts : List (ℕ × ℕ) → ℕ → Case
  -- the faults, source, destination, and the letters of the route
  routes : List (ℕ × ℕ) → ℕ × ℕ → ℕ × ℕ → String → Case
  -- the faults, source, destination, and the number of the refusal
  refuses : List (ℕ × ℕ) → ℕ × ℕ → ℕ × ℕ → ℕ → Case
  -- the faults, and a place on a ring
  rings : List (ℕ × ℕ) → ℕ × ℕ → Case
  -- the faults, source, destination, and the first hops by the rules, whether they are lawful or not
  walks : List (ℕ × ℕ) → ℕ × ℕ → ℕ × ℕ → String → Case
  -- the faults, source, destination, the letters of a hand-in, and its verdict: 0 or the number of what is wrong, the length or the index
  judges : List (ℕ × ℕ) → ℕ × ℕ → ℕ × ℕ → String → ℕ → ℕ → Case

unfoldable pub edges : List Block → List ℕ
edges [] = []
edges (b ∷ bs) = b.row ∷ (b.row + b.height - 1) ∷ b.column ∷ (b.column + b.width - 1) ∷ edges bs

unfoldable pub bytes : String → List ℕ
bytes Text.[] = []
bytes (Text.◌∷◌ c s) = code c ∷ bytes s

abbrev pub place : ℕ × ℕ → Place
place p = places.place p.0 p.1

-- on a network, with room for 100 letters
unfoldable pub refusal : Network → List (ℕ × ℕ) → ℕ × ℕ → ℕ × ℕ → ℕ
refusal n faults s d = route_refusal n 10 8 (fault_map faults) (place s) (place d) (replicate 100 0)

unfoldable pub verdict : Network → List (ℕ × ℕ) → ℕ × ℕ → ℕ × ℕ → String → Verdict
verdict n faults s d text = judgement n 10 8 (fault_map faults) (place s) (place d) (bytes text)

unfoldable pub holds : Network → Case → Bool
holds n (makes faults expect) = same_list (edges (blocks (marked (mesh 10 8 (fault_map faults))))) expect
holds n (counts faults expect) = eqb (rounds (mesh 10 8 (fault_map faults))) expect
holds n (routes faults s d expect) =
    eqb (refusal n faults s d) 0 && same_list (letters (hops_of n (marked (mesh 10 8 (fault_map faults))) (place s) (place d))) (bytes expect)
holds n (refuses faults s d expect) = eqb (refusal n faults s d) expect
holds n (rings faults p) = some_block (λ b. on_ring b p.0 p.1) (blocks (marked (mesh 10 8 (fault_map faults))))
holds n (walks faults s d expect) =
    same_list (letters (walk (length (bytes expect)) (trip_on n (marked (mesh 10 8 (fault_map faults))) (place d)) (fresh (place s)))) (bytes expect)
holds n (judges faults s d text k i) = eqb (verdict_code (verdict n faults s d text)) k && eqb (verdict_index (verdict n faults s d text)) i

unfoldable pub all_hold : Network → List Case → Bool
all_hold n [] = true
all_hold n (x ∷ xs) = holds n x && all_hold n xs

unfoldable pub A : List (ℕ × ℕ)
A = (3, 4) ∷ (4, 5) ∷ []

unfoldable pub B : List (ℕ × ℕ)
B = (4, 4) ∷ []

unfoldable pub C : List (ℕ × ℕ)
C = (3, 3) ∷ (3, 6) ∷ []

-- one fault in an odd column
unfoldable pub D : List (ℕ × ℕ)
D = (4, 3) ∷ []

-- a column of faults, and one beside its south end
unfoldable pub L : List (ℕ × ℕ)
L = (1, 2) ∷ (2, 2) ∷ (3, 2) ∷ (4, 2) ∷ (5, 2) ∷ (6, 2) ∷ (1, 3) ∷ []

unfoldable pub starred : List Case
starred =
    makes A (3 ∷ 4 ∷ 4 ∷ 5 ∷ []) ∷
    makes C (3 ∷ 3 ∷ 3 ∷ 3 ∷ 3 ∷ 3 ∷ 6 ∷ 6 ∷ []) ∷
    makes ((3, 4) ∷ (3, 6) ∷ []) (3 ∷ 3 ∷ 4 ∷ 6 ∷ []) ∷
    makes ((2, 4) ∷ (3, 6) ∷ []) (2 ∷ 3 ∷ 4 ∷ 6 ∷ []) ∷
    makes ((2, 4) ∷ (4, 4) ∷ []) (2 ∷ 2 ∷ 4 ∷ 4 ∷ 4 ∷ 4 ∷ 4 ∷ 4 ∷ []) ∷
    routes A (1, 5) (6, 5) "WNWWNNNNEEE" ∷
    routes A (1, 4) (3, 9) "NWWNENNEEEESSEE" ∷
    routes A (3, 0) (3, 9) "EEENNEEEESSEE" ∷
    routes A (4, 9) (4, 0) "WWWNWWWWSWW" ∷
    routes C (3, 0) (3, 9) "ENEEEESSEENEE" ∷
    refuses B (4, 5) (6, 5) 9 ∷
    routes B (4, 5) (4, 9) "EEEE" ∷
    routes A (1, 5) (5, 4) "WNWWNNNEE" ∷
    []

pub starred-hold : T (all_hold First starred)
unfolding starred all_hold holds A B C refusal bytes edges on_mesh row_after column_after letters turns_west first is_bad bad ahead
    upright rule_a rule_b unsafe become advance round same_list settle run corner block_at select blocks reaches some_block near_in_row
    blocked side toward own stopped again at_destination in_row leaving across nearing other_row hop moved arrived hop_at walk
    shut_in meets_edge distance detours bound bad_size bad_length some bad_byte allowed misplaced_at misplaced map_tests off_mesh in_block block_near_in_row
    unserved place_tests trip_tests request_tests hops_of send_tests route_refusal
starred-hold = tt

-- The rounds of the marking (document 02, E7): no faults, faults that make no node unsafe, two nodes in one round. On map L each round but the
-- last makes one node unsafe, as the one before it made its south neighbour.
unfoldable pub in_rounds : List Case
in_rounds =
    counts [] 1 ∷
    counts B 1 ∷
    counts C 1 ∷
    counts A 2 ∷
    counts ((3, 4) ∷ (3, 6) ∷ []) 2 ∷
    counts ((2, 4) ∷ (3, 6) ∷ []) 3 ∷
    counts L 6 ∷
    []

pub in_rounds-hold : T (all_hold First in_rounds)
unfolding in_rounds all_hold holds A B C L on_mesh is_bad bad ahead upright rule_a rule_b unsafe become advance round same_list settle
in_rounds-hold = tt

-- Each of the four turns in a column of either kind; one that enters a block besides; one that leaves the mesh besides.
unfoldable pub turns : List Case
turns =
    judges A (1, 5) (2, 6) "EN" 14 1 ∷
    judges A (1, 6) (2, 7) "EN" 0 2 ∷
    judges A (1, 7) (2, 6) "NW" 14 1 ∷
    judges A (1, 6) (2, 5) "NW" 0 2 ∷
    judges A (1, 5) (0, 6) "ES" 17 1 ∷
    judges A (1, 6) (0, 7) "ES" 0 2 ∷
    judges A (1, 7) (0, 6) "SW" 17 1 ∷
    judges A (1, 6) (0, 5) "SW" 0 2 ∷
    judges A (2, 3) (2, 4) "EN" 14 1 ∷
    judges A (5, 3) (5, 4) "ES" 17 1 ∷
    judges B (3, 5) (3, 6) "NW" 14 1 ∷
    judges B (5, 5) (5, 6) "SW" 17 1 ∷
    judges A (7, 3) (7, 4) "EN" 12 1 ∷
    judges A (0, 3) (0, 4) "ES" 12 1 ∷
    []

pub turns-hold : T (all_hold First turns)
unfolding turns all_hold holds A B verdict bytes on_mesh row_after column_after opposite same named turns_west first is_bad bad ahead upright rule_a
    rule_b unsafe become advance round same_list settle blocked moved stays breaks turn_breaks hop_breaks reverses turns_back arrived
    bad_size bad_length some bad_byte allowed misplaced_at misplaced map_tests off_mesh in_block place_tests hop_tests letter_mistake follow unless
    judge judge_from judgement at_destination
turns-hold = tt

-- Refusal 8 (document 02, E4) round map A's block, of rows 3 and 4 and columns 4 and 5: two columns on either side, in its rows; its ring's
-- places in the rows next to it are served. Right beside a block, east or west of it, a route could fail: past the block the packet comes
-- back to its row in an odd column, and may not turn west there.
unfoldable pub near_blocks : List Case
near_blocks =
    refuses A (1, 5) (3, 3) 8 ∷
    refuses A (1, 5) (3, 2) 8 ∷
    routes A (1, 5) (4, 1) "WNWWNNW" ∷
    refuses A (1, 5) (4, 6) 8 ∷
    refuses A (1, 5) (4, 7) 8 ∷
    routes A (1, 5) (4, 8) "WNWWNNENEEEESE" ∷
    rings A (5, 4) ∷
    routes A (4, 9) (5, 4) "WNWWWW" ∷
    rings A (2, 5) ∷
    routes A (6, 4) (2, 5) "SWWSSSEEE" ∷
    walks A (1, 5) (4, 6) "WNWWNNENEEEESW" ∷
    judges A (1, 5) (4, 6) "WNWWNNENEEEESW" 17 13 ∷
    refuses D (4, 1) (4, 2) 8 ∷
    walks D (4, 1) (4, 2) "NEEEESW" ∷
    judges D (4, 1) (4, 2) "NEEEESW" 17 6 ∷
    []

pub near_blocks-hold : T (all_hold First near_blocks)
unfolding near_blocks all_hold holds A D refusal verdict bytes on_mesh row_after column_after letters opposite same named turns_west first is_bad bad ahead
    upright rule_a rule_b unsafe become advance round same_list settle run corner block_at select blocks reaches on_ring some_block near_in_row
    blocked side toward own stopped again at_destination in_row leaving across nearing other_row hop moved stays arrived hop_at walk
    shut_in meets_edge distance detours bound bad_size bad_length some bad_byte allowed misplaced_at misplaced map_tests off_mesh in_block block_near_in_row
    unserved place_tests trip_tests request_tests hops_of send_tests route_refusal breaks turn_breaks hop_breaks reverses turns_back
    hop_tests letter_mistake follow unless judge judge_from judgement
near_blocks-hold = tt

-- The second network (document 02, E6): the same sends as above, in other columns; a source shut in on one network and served on the other;
-- sources in column 0; and each of the four turns in a column of either kind.
unfoldable pub second : List Case
second =
    routes A (1, 5) (6, 5) "NWWNNNNEE" ∷
    routes A (1, 4) (3, 9) "WNNNNEEESSEEE" ∷
    routes A (3, 0) (3, 9) "EENNEEEESSEEE" ∷
    routes A (4, 9) (4, 0) "WWNWWWWSWWW" ∷
    routes C (3, 0) (3, 9) "EENEESSEEEENE" ∷
    routes B (4, 5) (6, 5) "NN" ∷
    refuses D (4, 4) (6, 4) 9 ∷
    refuses D (4, 4) (4, 0) 9 ∷
    routes D (4, 4) (4, 9) "EEEEE" ∷
    refuses A (3, 0) (4, 9) 9 ∷
    walks A (3, 0) (4, 9) "W" ∷
    routes B (4, 0) (4, 9) "EENEEEESEEE" ∷
    judges A (1, 5) (2, 6) "EN" 0 2 ∷
    judges A (1, 6) (2, 7) "EN" 14 1 ∷
    judges A (1, 7) (2, 6) "NW" 0 2 ∷
    judges A (1, 6) (2, 5) "NW" 14 1 ∷
    judges A (1, 5) (0, 6) "ES" 0 2 ∷
    judges A (1, 6) (0, 7) "ES" 17 1 ∷
    judges A (1, 7) (0, 6) "SW" 0 2 ∷
    judges A (1, 6) (0, 5) "SW" 17 1 ∷
    []

pub second-hold : T (all_hold Second second)
unfolding second all_hold holds A B C D refusal verdict bytes on_mesh row_after column_after letters opposite same named turns_west first is_bad bad ahead
    upright rule_a rule_b unsafe become advance round same_list settle run corner block_at select blocks reaches some_block near_in_row
    blocked side toward own stopped again at_destination in_row leaving across nearing other_row hop moved stays arrived hop_at walk
    shut_in meets_edge distance detours bound bad_size bad_length some bad_byte allowed misplaced_at misplaced map_tests off_mesh in_block block_near_in_row
    unserved place_tests trip_tests request_tests hops_of send_tests route_refusal breaks turn_breaks hop_breaks reverses turns_back
    hop_tests letter_mistake follow unless judge judge_from judgement
second-hold = tt
