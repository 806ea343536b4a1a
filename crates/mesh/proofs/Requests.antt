-- What it says that none of refusals 6 to 9 applies. Assumes nothing.
use Rattle.std.proofs.Common.{◌≡◌, refl, true, false, ◌<◌}
use Rattle.std.proofs.lemmas.Bool.{or_parts, not-false}
use Rattle.mesh.specs.declared.Network.{Network}
use Rattle.mesh.specs.declared.Place.{Place}
use Rattle.mesh.specs.Mesh.{Mesh}
use Rattle.mesh.specs.Tests.{first}
use Rattle.mesh.specs.Requests.{off_mesh, in_block, block_near_in_row, unserved, place_tests, trip_tests, request_tests}
use Rattle.mesh.proofs.Hops.{on-mesh}
use Rattle.mesh.proofs.Tests.{numbered, NoneHolds, clear-before, first-none}

-- the orders of a place of the mesh
module _ (w : Mesh) (p : Place) (on : off_mesh w p ≡ false) where
  pub on_row : p.row.0 < w.rows
  unfolding off_mesh
  on_row = (on-mesh w p.row.0 p.column.0 (not-false _ on)).0

  pub on-column : p.column.0 < w.columns
  unfolding off_mesh
  on-column = (on-mesh w p.row.0 p.column.0 (not-false _ on)).1

-- a source and a destination that refusals 6 and 7 let pass
pub record Placed (w : Mesh) (s d : Place) : Type 0 where
  pub source-on : off_mesh w s ≡ false
  pub destination-on : off_mesh w d ≡ false
  pub source_free : in_block w s ≡ false
  pub destination-free : in_block w d ≡ false

-- a request that refusals 6 to 9 let pass
pub record Request (n : Network) (w : Mesh) (s d : Place) : Type 0 where
  pub placed : Placed w s d
  pub row-clear : block_near_in_row w d ≡ false
  pub served : unserved n w s d ≡ false

module _ (w : Mesh) (s d : Place) where
  pub place-numbered : numbered (place_tests w s d) ≡ true
  unfolding place_tests numbered
  place-numbered = refl

  pub trip-numbered : numbered (trip_tests w s d) ≡ true
  unfolding trip_tests place_tests numbered
  trip-numbered = refl

  pub request-numbered : (n : Network) → numbered (request_tests n w s d) ≡ true
  unfolding request_tests trip_tests place_tests numbered
  request-numbered n = refl

  pub placed : first (place_tests w s d) ≡ 0 → Placed w s d
  unfolding NoneHolds place_tests
  placed h =
      let (off, (within, _)) = first-none _ place-numbered h in
      let on = or_parts (off_mesh w s) (off_mesh w d) off in
      let free = or_parts (in_block w s) (in_block w d) within in
      record { source-on = on.0; destination-on = on.1; source_free = free.0; destination-free = free.1 }

  pub request : {n : Network} → first (request_tests n w s d) ≡ 0 → Request n w s d
  unfolding NoneHolds request_tests trip_tests place_tests
  request {n} h =
      let (off, (within, (near, (shut, _)))) = first-none _ (request-numbered n) h in
      record { placed = placed (clear-before (place_tests w s d) _ h); row-clear = near; served = shut }
