-- The cases of "Route": the map's refusals as they were told, or what is done on its marking. Assumes nothing.
use Rattle.std.proofs.Common.{◌≡◌, sym, ◌∙◌, List, ℕ, Result, Err}
use Rattle.mesh.specs.declared.Refusal.{Refusal}
use Rattle.mesh.specs.declared.Network.{Network}
use Rattle.mesh.specs.declared.Place.{Place}
use Rattle.mesh.specs.Mesh.{Mesh, mesh}
use Rattle.mesh.specs.Tests.{first}
use Rattle.mesh.specs.Numbers.{number}
use Rattle.mesh.specs.Rounds.{marked}
use Rattle.mesh.specs.Maps.{map_tests}
use Rattle.mesh.specs.Routing.{send_tests, route_refusal, Routes}
use Rattle.mesh.proofs.Numbers.{answer-refused, written-refused}
use Rattle.marking.proofs.Marks.{map-first, map-next}
use Rattle.routing.specs.Marked.{RoutesOn}

module _ (network : Network) (columns rows : ℕ) (map : List ℕ) (s d : Place) (out : List ℕ) where
  pub map-refused : (why : Refusal) → number why ≡ first (map_tests columns rows map) → Routes network columns rows map s d out (Err why) out
  unfolding route_refusal
  map-refused why told =
      let e = map-first columns rows map (send_tests network (marked (mesh columns rows map)) s d out) why told in
      record { answers = rw e (sym (answer-refused why _)); writes = rw e (sym (written-refused why _ _)) }

  pub marked-routed : {w : Mesh} → 0 ≡ first (map_tests columns rows map) → w ≡ marked (mesh columns rows map) → {r : Result ℕ Refusal} {after : List ℕ} →
      RoutesOn network w s d out r after → Routes network columns rows map s d out r after
  unfolding route_refusal
  marked-routed clear is-w r =
      let on = rw is-w at r in
      let next = map-next columns rows map (send_tests network (marked (mesh columns rows map)) s d out) clear in
      record { answers = on.answers ∙ rw next; writes = on.writes ∙ rw next }
