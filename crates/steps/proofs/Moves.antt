-- The cases of "Move on". Assumes nothing.
use Rattle.std.specs.Prelude.{⊤}
use Rattle.std.proofs.Common.{◌≡◌, refl, sym, ◌∙◌, inl, inr, true, false, List, ℕ, Option, None, Result, Ok, Err, arith}
use Rattle.mesh.specs.declared.Heading.{Heading}
use Rattle.mesh.specs.declared.Mistake.{Mistake}
use Rattle.mesh.specs.declared.Network.{Network}
use Rattle.mesh.specs.declared.Packet.{Packet}
use Rattle.mesh.specs.declared.Refusal.{Refusal}
use Rattle.mesh.specs.declared.Refusal.TheVariants.{Unlawful}
use Rattle.mesh.specs.Mesh.{Mesh, mesh}
use Rattle.mesh.specs.Numbers.{number, mistake_number}
use Rattle.mesh.specs.Rounds.{marked}
use Rattle.mesh.specs.Hops.{lawful, moved, at, trip_of, is_there}
use Rattle.mesh.specs.Walk.{hop_at}
use Rattle.mesh.specs.Tests.{first}
use Rattle.mesh.specs.Requests.{trip_tests}
use Rattle.mesh.specs.Maps.{map_tests}
use Rattle.mesh.specs.Moving.{move_refusal, hop_from, may_hop, told, record_after, MovesOn}
use Rattle.mesh.proofs.Bools.{value}
use Rattle.mesh.proofs.Maps.{map-numbered}
use Rattle.mesh.proofs.Numbers.{number-some, mistake-some}
use Rattle.mesh.proofs.Tests.{told-refused, clear_next}
use Rattle.theory_judging.proofs.Theorems.{letter-lawful}
use Rattle.hops.specs.Tests.{Tests}
use Rattle.steps.specs.Marked.{Moves}

-- a hop with something wrong is not one with nothing wrong
wrong-some : (m : Mistake) → mistake_number m ≡ 0 → ⊥
wrong-some m e = omega (arith, mistake-some m)

module _ (network : Network) (w : Mesh) (p : Packet) {k : ℕ} where
  pub moves-refused : (why : Refusal) → number why ≡ k → Moves k network w p (Err why) p
  unfolding told record_after
  moves-refused why e = record { answers = rw (← e, number-some why); leaves = rw (← e, number-some why) }

  -- no refusal applies
  module _ (clear : 0 ≡ k) where
    pub moves-arrived : is_there p ≡ true → Moves k network w p (Ok None) p
    unfolding told record_after
    moves-arrived e = record { answers = rw (← clear, e); leaves = rw (← clear, e) }

    -- the hop by the rules, tested
    module _ (away : is_there p ≡ false) {h : Heading} (e : h ≡ hop_at (trip_of network w p) (at p)) {t : Result Packet Mistake} (x : Tests network w p h t) where
      pub moves-hop : {after : Packet} → t ≡ Ok after → Moves k network w p (Ok after.last) after
      unfolding told record_after may_hop hop_from moved
      moves-hop q =
          let l : lawful (trip_of network w p) (at p) h ≡ true = (letter-lawful (trip_of network w p) (at p) h).0 (sym x.told ∙ rw q) in
          let l' = rw e at l in
          record { answers = rw (← clear, x.onward q, away, e, l'); leaves = rw (← clear, x.onward q, away, e, l') }

      pub moves-unlawful : {f : Mistake} → t ≡ Err f → Moves k network w p (Err Unlawful) p
      unfolding told record_after may_hop hop_from
      moves-unlawful {f} q =
          elim (value (lawful (trip_of network w p) (at p) h)) [
            | inl l ↦ absurd (wrong-some f ((rw q at x.told) ∙ (letter-lawful (trip_of network w p) (at p) h).1 l))
            | inr l ↦ let m = rw e at l in record { answers = rw (← clear, away, m); leaves = rw (← clear, away, m) }
          ]

module _ (network : Network) (columns rows : ℕ) (map : List ℕ) (p : Packet) where
  pub map-refused : (why : Refusal) → number why ≡ first (map_tests columns rows map) → MovesOn network columns rows map p (Err why) p
  unfolding move_refusal
  map-refused why told =
      let w = marked (mesh columns rows map) in
      let first-told = told-refused (map_tests columns rows map) (trip_tests w p.place p.destination) {A = ⊤} {x = Err why} told refl in
      let m = moves-refused network w p why (sym first-told) in
      record { answers = m.answers; leaves = m.leaves }

  -- what the map's marking says, where refusals 1 to 5 do not apply
  pub marked-moves : 0 ≡ first (map_tests columns rows map) → {w : Mesh} → w ≡ marked (mesh columns rows map) →
      {m : Result (Option Heading) Refusal} {after : Packet} → Moves (first (trip_tests w p.place p.destination)) network w p m after →
      MovesOn network columns rows map p m after
  unfolding move_refusal
  marked-moves clear is-w a =
      let w = marked (mesh columns rows map) in
      let next = clear_next (map_tests columns rows map) (trip_tests w p.place p.destination) (map-numbered columns rows map) (sym clear) in
      let m = rw is-w at a in
      record { answers = rw next m.answers; leaves = rw next m.leaves }
