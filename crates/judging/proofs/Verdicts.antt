-- The cases of "Judge a hand-in". Assumes nothing.
use Rattle.std.proofs.Common.{◌≡◌, refl, sym, List, ℕ, Err}
use Rattle.std.specs.Prelude.{⊤}
use Rattle.mesh.specs.declared.Refusal.{Refusal}
use Rattle.mesh.specs.declared.Network.{Network}
use Rattle.mesh.specs.declared.Place.{Place}
use Rattle.mesh.specs.Mesh.{Mesh, mesh}
use Rattle.mesh.specs.Tests.{first}
use Rattle.mesh.specs.Numbers.{number}
use Rattle.mesh.specs.Rounds.{marked}
use Rattle.mesh.specs.Maps.{map_tests}
use Rattle.mesh.specs.Rules.{trip_on}
use Rattle.mesh.specs.Hops.{fresh}
use Rattle.mesh.specs.Requests.{place_tests}
use Rattle.mesh.specs.Judging.{Verdict, failed, unless, judge, judge_from, judgement}
use Rattle.mesh.proofs.Numbers.{number-some}
use Rattle.mesh.proofs.Tests.{told-refused, clear_next}
use Rattle.mesh.proofs.Maps.{map-numbered}
use Rattle.mesh.proofs.Requests.{placed}
use Rattle.nodes.specs.Sized.{OnMesh}
use Rattle.nodes.proofs.Lookup.{on-mesh}
use Rattle.judging.specs.Marked.{judgement_on}

unless-refused : (why : Refusal) (rest : Verdict) → failed (number why) 0 ≡ unless (number why) 0 rest
unfolding unless
unless-refused why rest = rw (number-some why)

module _ (network : Network) (w : Mesh) (s d : Place) (xs : List ℕ) where
  pub places-refused : (why : Refusal) → number why ≡ first (place_tests w s d) → failed (number why) 0 ≡ judgement_on network w s d xs
  unfolding judgement_on
  places-refused why told = rw (← told) (unless-refused why _)

  pub source-on : 0 ≡ first (place_tests w s d) → OnMesh w s
  source-on clear = on-mesh w s (placed w s d (sym clear)).source-on

  pub letters-judged : 0 ≡ first (place_tests w s d) → judge (trip_on network w d) (fresh s) 0 xs ≡ judgement_on network w s d xs
  unfolding judgement_on judge_from unless
  letters-judged clear = rw (← clear)

module _ (network : Network) (columns rows : ℕ) (map : List ℕ) (s d : Place) (xs : List ℕ) where
  pub map-refused : (why : Refusal) → number why ≡ first (map_tests columns rows map) → failed (number why) 0 ≡ judgement network columns rows map s d xs
  unfolding judgement
  map-refused why told =
      rw (told-refused (map_tests columns rows map) (place_tests (marked (mesh columns rows map)) s d) {A = ⊤} {x = Err why} told refl)
      (unless-refused why _)

  pub marked-judged : 0 ≡ first (map_tests columns rows map) → {w : Mesh} → w ≡ marked (mesh columns rows map) →
      judgement_on network w s d xs ≡ judgement network columns rows map s d xs
  unfolding judgement judgement_on
  marked-judged clear e =
      rw (e, clear_next (map_tests columns rows map) (place_tests (marked (mesh columns rows map)) s d) (map-numbered columns rows map) (sym clear))
