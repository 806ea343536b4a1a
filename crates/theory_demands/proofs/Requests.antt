-- What it says that none of a request's refusals applies. Assumes nothing.
use Rattle.std.proofs.Common.{◌≡◌, sym, ◌∙◌, false, cond, List, ◌++◌, ℕ}
use Rattle.mesh.specs.declared.Network.{Network}
use Rattle.mesh.specs.declared.Place.{Place}
use Rattle.mesh.specs.Mesh.{Mesh, mesh}
use Rattle.mesh.specs.Tests.{Test, first}
use Rattle.mesh.specs.Rounds.{marked}
use Rattle.mesh.specs.Blocks.{blocks}
use Rattle.mesh.specs.Maps.{map_tests}
use Rattle.mesh.specs.Requests.{in_block, block_near_in_row, unserved, place_tests, trip_tests, request_tests}
use Rattle.mesh.proofs.Tests.{NoneHolds, first-none, clear-before, clear_next}
use Rattle.mesh.proofs.Maps.{map-numbered, accepted}
use Rattle.mesh.proofs.Requests.{on_row, on-column, Placed, trip-numbered, placed, request}
use Rattle.theory_blocks.proofs.Theorems.{obstacles}
use Rattle.theory_judging.specs.Claims.{refusal_of, trip_to}
use Rattle.theory_walk.specs.Course.{Course, FreePlace, Served}
use Rattle.theory_walk.proofs.Theorems.{destination-course, source-served}
use Rattle.theory_demands.specs.Demand3.{refusal1to8, request_refusal}

-- a request that refusals 1 to 8 let pass
pub record Passed (columns rows : ℕ) (map : List ℕ) (s d : Place) : Type 0 where
  pub map-passes : first (map_tests columns rows map) ≡ 0
  pub placed : Placed (marked (mesh columns rows map)) s d
  pub row-clear : block_near_in_row (marked (mesh columns rows map)) d ≡ false

-- and one that 9 lets pass too
pub record Clear (network : Network) (columns rows : ℕ) (map : List ℕ) (s d : Place) : Type 0 where
  pub passed : Passed columns rows map s d
  pub none : first (request_tests network (marked (mesh columns rows map)) s d) ≡ 0

module _ (columns rows : ℕ) (map : List ℕ) (s d : Place) where
  abbrev w : Mesh
  w = marked (mesh columns rows map)

  -- refusals 1 to 5 do not apply, and none of the others
  map-passes : (others : List Test) → first (map_tests columns rows map ++ others) ≡ 0 → (first (map_tests columns rows map) ≡ 0) × (first others ≡ 0)
  map-passes others h =
      let clear = clear-before (map_tests columns rows map) others h in
      (clear, sym (clear_next (map_tests columns rows map) others (map-numbered columns rows map) clear) ∙ h)

  pub passed-8 : refusal1to8 columns rows map s d ≡ 0 → Passed columns rows map s d
  unfolding refusal1to8 trip_tests place_tests NoneHolds
  passed-8 h =
      let (clear, none) = map-passes (trip_tests w s d) h in
      let (_, (_, (row-clear, _))) = first-none (trip_tests w s d) (trip-numbered w s d) none in
      record { map-passes = clear; placed = placed w s d (clear-before (place_tests w s d) _ none); row-clear = row-clear }

  pub passed-9 : {network : Network} → request_refusal network columns rows map s d ≡ 0 → Clear network columns rows map s d
  unfolding request_refusal
  passed-9 {network} h =
      let (clear, none) = map-passes (request_tests network w s d) h in
      let q = request w s d none in
      record { passed = record { map-passes = clear; placed = q.placed; row-clear = q.row-clear }; none = none }

  -- where refusals 1 to 8 let it pass, 9 decides
  pub nine-decides : (network : Network) → refusal1to8 columns rows map s d ≡ 0 →
      request_refusal network columns rows map s d ≡ cond (unserved network w s d) 9 0
  unfolding refusal1to8 request_refusal request_tests first
  nine-decides network h =
      let (clear, none) = map-passes (trip_tests w s d) h in
      clear_next (map_tests columns rows map) _ (map-numbered columns rows map) clear ∙ clear_next (trip_tests w s d) _ (trip-numbered w s d) none

module _ {columns rows : ℕ} {map : List ℕ} {s d : Place} (p : Passed columns rows map s d) where
  pub course-of : (network : Network) → Course (trip_to network columns rows map d) (blocks (marked (mesh columns rows map)))
  course-of network =
      destination-course network (marked (mesh columns rows map)) s d (obstacles (accepted p.map-passes)) p.placed p.row-clear

  pub free_source : (network : Network) → FreePlace (trip_to network columns rows map d) s.row.0 s.column.0
  unfolding in_block
  free_source network =
      let w = marked (mesh columns rows map) in
      record { row = on_row w s p.placed.source-on; column = on-column w s p.placed.source-on; free = p.placed.source_free }

  -- judging does not refuse it
  pub judged-clear : refusal_of columns rows map s d ≡ 0
  unfolding place_tests first
  judged-clear =
      clear_next (map_tests columns rows map) _ (map-numbered columns rows map) p.map-passes ∙
      rw (p.placed.source-on, p.placed.destination-on, p.placed.source_free, p.placed.destination-free)

pub served-of : {network : Network} {columns rows : ℕ} {map : List ℕ} {s d : Place} → Clear network columns rows map s d →
    Served (trip_to network columns rows map d) s.row.0 s.column.0
served-of {network} {columns} {rows} {map} {s} {d} clear =
    let w = marked (mesh columns rows map) in
    source-served network w s d (request w s d clear.none)
