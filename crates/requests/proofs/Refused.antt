-- Refusals 6 to 9 as the code tests them: one more test after those that a check has made. Assumes nothing.
use Rattle.std.proofs.Common.{◌≡◌, sym, Bool, cond, refl, [], ◌∷◌, Err}
use Rattle.std.specs.Prelude.{⊤}
use Rattle.mesh.specs.declared.Network.{Network}
use Rattle.mesh.specs.declared.Place.{Place}
use Rattle.mesh.specs.declared.Refusal.{Refusal}
use Rattle.mesh.specs.Mesh.{Mesh}
use Rattle.mesh.specs.Tests.{◌gives◌, first}
use Rattle.mesh.specs.Numbers.{number}
use Rattle.mesh.specs.Requests.{block_near_in_row, unserved, place_tests, trip_tests, request_tests}
use Rattle.mesh.proofs.Tests.{told-refused, clear_next, clear-before}
use Rattle.mesh.proofs.Requests.{place-numbered, trip-numbered, placed}
use Rattle.nodes.specs.Sized.{OnMesh}
use Rattle.nodes.proofs.Lookup.{on-mesh}

module _ (w : Mesh) (s d : Place) where
  pub destination-on : 0 ≡ first (place_tests w s d) → OnMesh w d
  destination-on clear = on-mesh w d (placed w s d (sym clear)).destination-on

  pub source-on : 0 ≡ first (trip_tests w s d) → OnMesh w s
  unfolding trip_tests
  source-on clear = on-mesh w s (placed w s d (clear-before (place_tests w s d) _ (sym clear))).source-on

  pub place-refused : (why : Refusal) → number why ≡ first (place_tests w s d) → number why ≡ first (trip_tests w s d)
  unfolding trip_tests
  place-refused why told = sym (told-refused (place_tests w s d) _ {A = ⊤} {x = Err why} told refl)

  pub near-decides : {b : Bool} → 0 ≡ first (place_tests w s d) → b ≡ block_near_in_row w d → cond b 8 0 ≡ first (trip_tests w s d)
  unfolding trip_tests first
  near-decides clear e = rw e (sym (clear_next (place_tests w s d) (block_near_in_row w d gives 8 ∷ []) (place-numbered w s d) (sym clear)))

  module _ (n : Network) where
    pub trip-refused : (why : Refusal) → number why ≡ first (trip_tests w s d) → number why ≡ first (request_tests n w s d)
    unfolding request_tests
    trip-refused why told = sym (told-refused (trip_tests w s d) _ {A = ⊤} {x = Err why} told refl)

    pub unserved-decides : {b : Bool} → 0 ≡ first (trip_tests w s d) → b ≡ unserved n w s d → cond b 9 0 ≡ first (request_tests n w s d)
    unfolding request_tests first
    unserved-decides clear e = rw e (sym (clear_next (trip_tests w s d) (unserved n w s d gives 9 ∷ []) (trip-numbered w s d) (sym clear)))
