-- Worked draws, by computation. Assumes nothing.
use Rattle.std.specs.Prelude.{Bool, true, ◌&&◌, List, [], ◌∷◌, map, ℕ, T, eqb, length, replicate}
use Rattle.mesh.specs.Tests.{first}
use Rattle.mesh.specs.Rounds.{same_list}
use Rattle.mesh.specs.Blocks.{select}
use Rattle.mesh.specs.Maps.{bad_size, allowed}
use Rattle.mesh.specs.Cases.{place}
use Rattle.theory_draw.specs.Draws.{next_state, state_after, allowed_at, places, place_count, place_numbered, picked, picked_place, drawn_places, index_of, fault_map, same_place, is_among, distinct}
use Rattle.theory_draw.specs.Drawing.{drawn_map, drawn_faults, bad_draws, draw_refusal}

pub data Case : Type 0 where
  -- a seed, and the states after each of its first draws
  states : ℕ → List ℕ → Case
  -- columns, rows, and how many places are allowed
  counts : ℕ → ℕ → ℕ → Case
  -- columns, rows, a seed and a number of draws; the distinct faults of the map, by row and column
  draws : ℕ → ℕ → ℕ → ℕ → List (ℕ × ℕ) → Case
  -- columns, rows, a number of draws, how long the output is; the refusal, or 0
  answers : ℕ → ℕ → ℕ → ℕ → ℕ → Case

-- each draw's new state is the next of the list
unfoldable pub states_are : ℕ → List ℕ → Bool
states_are state [] = true
states_are state (x ∷ xs) = eqb (next_state state) x && states_are (next_state state) xs

unfoldable pub holds : Case → Bool
holds (states seed xs) = states_are seed xs
holds (counts columns rows n) = eqb (place_count columns rows) n
holds (draws columns rows seed n faults) =
    same_list (drawn_map columns rows seed n) (fault_map columns rows (map place faults)) && eqb (drawn_faults columns rows seed n) (length faults)
holds (answers columns rows n room expect) = eqb (draw_refusal columns rows n (replicate room 0)) expect

unfoldable pub all_hold : List Case → Bool
all_hold [] = true
all_hold (x ∷ xs) = holds x && all_hold xs

-- The first state of document 02, and the two after it; how many places there are. Three draws from the first seed and from the last; places that come
-- again; no draws. What is refused: nothing without draws; the most draws and one more; a draw without a place, by the columns and by the rows;
-- output one byte short; and which refusal comes first.
unfoldable pub worked : List Case
worked =
    states 0 (1013904223 ∷ 1196435762 ∷ 3519870697 ∷ []) ∷
    counts 10 8 36 ∷
    counts 4 64 0 ∷
    counts 5 3 1 ∷
    draws 10 8 0 3 ((2, 4) ∷ (2, 6) ∷ (5, 7) ∷ []) ∷
    draws 10 8 4294967295 3 ((1, 6) ∷ (2, 2) ∷ (2, 4) ∷ []) ∷
    draws 10 8 2026 6 ((1, 2) ∷ (1, 3) ∷ (3, 7) ∷ (4, 7) ∷ []) ∷
    draws 7 5 9 8 ((1, 2) ∷ (1, 4) ∷ (2, 2) ∷ (3, 3) ∷ (3, 4) ∷ []) ∷
    draws 5 3 7 2 ((1, 2) ∷ []) ∷
    draws 10 8 7 0 [] ∷
    answers 1 1 0 1 0 ∷
    answers 5 3 1000 15 0 ∷
    answers 5 3 1001 15 24 ∷
    answers 4 64 1 256 24 ∷
    answers 64 2 1 128 24 ∷
    answers 5 3 1 14 10 ∷
    answers 1 1 0 0 10 ∷
    answers 65 65 1001 0 1 ∷
    answers 0 65 1001 0 1 ∷
    answers 64 65 1001 0 2 ∷
    answers 64 0 1001 0 2 ∷
    answers 64 64 1001 0 24 ∷
    answers 4 2 1 0 24 ∷
    []

pub worked-hold : T (all_hold worked)
unfolding worked all_hold holds states_are first same_list select bad_size allowed next_state state_after allowed_at places place_numbered picked picked_place
    drawn_places index_of fault_map same_place is_among distinct drawn_map drawn_faults bad_draws draw_refusal
worked-hold = tt
