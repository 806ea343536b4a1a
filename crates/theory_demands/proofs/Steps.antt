-- One call of Move on. Assumes nothing.
use Rattle.std.proofs.Common.{Option, Result, ◌≡◌, refl, sym, ◌∙◌, Bool, true, false, not, cond, ◌&&◌, List, ℕ, zero, suc, arith, lt-ltb}
use Rattle.mesh.specs.declared.Refusal.{Refusal}
use Rattle.mesh.specs.declared.Heading.{Heading}
use Rattle.mesh.specs.declared.Packet.{Packet}
use Rattle.mesh.specs.declared.Network.{Network}
use Rattle.mesh.specs.declared.Place.{Place}
use Rattle.mesh.specs.Mesh.{Mesh, mesh, on_mesh}
use Rattle.mesh.specs.Headings.{letter}
use Rattle.mesh.specs.Rounds.{marked}
use Rattle.mesh.specs.Rules.{at_destination}
use Rattle.mesh.specs.Hops.{At, moved, is_there, packet_at}
use Rattle.mesh.specs.Walk.{arrived}
use Rattle.mesh.specs.Tests.{first}
use Rattle.mesh.specs.Maps.{map_tests}
use Rattle.mesh.specs.Requests.{off_mesh, in_block, place_tests, trip_tests}
use Rattle.mesh.specs.Moving.{Told, hopped, there, moved_told, move_refusal, hop_from, may_hop, told, record_after, MovesOn}
use Rattle.mesh.proofs.Tests.{clear_next}
use Rattle.mesh.proofs.Maps.{map-numbered}
use Rattle.theory_judging.specs.Claims.{trip_to}
use Rattle.theory_walk.specs.Course.{FreePlace}
use Rattle.theory_walk.specs.Claims.{Hops}
use Rattle.theory_demands.proofs.Requests.{Passed}

-- Answers are told apart.
pub hopped-refused {ℓ} : {A : Type ℓ} {n k : ℕ} → hopped n ≡ Told.refused k → A
hopped-refused e = let z : ◌≡◌ {A = ℕ} 0 1 = cc in absurd (omega arith)

pub there-refused {ℓ} : {A : Type ℓ} {k : ℕ} → there ≡ Told.refused k → A
there-refused e = let z : ◌≡◌ {A = ℕ} 0 1 = cc in absurd (omega arith)

-- the record after a call that is refused for its hop, by the two tests
still-by : (a b : Bool) (x : ℕ) (q p : Packet) {k : ℕ} → cond a there (cond b (hopped x) (Told.refused 9)) ≡ Told.refused k →
    cond (not a && b) q p ≡ p
still-by true b x q p e = there-refused e
still-by false true x q p e = hopped-refused e
still-by false false x q p e = refl

still : (n : ℕ) {k : ℕ} (network : Network) (w : Mesh) (p : Packet) → told n network w p ≡ Told.refused k → record_after n network w p ≡ p
unfolding told record_after
still zero network w p e = still-by (is_there p) (may_hop network w p) _ _ p e
still (suc n) network w p e = refl

-- a refused call alters nothing, whatever it was given
pub refused-still : {network : Network} {columns rows : ℕ} {map : List ℕ} {p after : Packet} {m : Result (Option Heading) Refusal} {k : ℕ} →
    MovesOn network columns rows map p m after → moved_told m ≡ Told.refused k → after ≡ p
refused-still {network} {columns} {rows} {map} {p} keeps e =
    keeps.leaves ∙ still (move_refusal columns rows map p) network (marked (mesh columns rows map)) p (sym keeps.answers ∙ e)

-- A call on the record of a packet at a free place a, on its way to d.
module _ (network : Network) {columns rows : ℕ} {map : List ℕ} {s d : Place} (passed : Passed columns rows map s d) (a : At)
    (free : FreePlace (trip_to network columns rows map d) a.row a.column) where
  -- refusals 1 to 8 do not apply
  none-applies : move_refusal columns rows map (packet_at a d) ≡ 0
  unfolding move_refusal trip_tests place_tests first off_mesh in_block on_mesh
  none-applies =
      clear_next (map_tests columns rows map) _ (map-numbered columns rows map) passed.map-passes ∙
      rw (lt-ltb _ _ free.row, lt-ltb _ _ free.column, passed.placed.destination-on, free.free, passed.placed.destination-free, passed.row-clear)

  module _ {m : Result (Option Heading) Refusal} {after : Packet} (keeps : MovesOn network columns rows map (packet_at a d) m after) where
    pub hops-answer : {h : Heading} → Hops (trip_to network columns rows map d) a h → moved_told m ≡ hopped (letter h)
    unfolding told is_there may_hop hop_from arrived at_destination
    hops-answer g = keeps.answers ∙ rw (none-applies, g.not-arrived, ← g.by-rule, g.lawfully)

    pub hops-record : {h : Heading} → Hops (trip_to network columns rows map d) a h → after ≡ packet_at (moved h a) d
    unfolding record_after is_there may_hop hop_from arrived at_destination
    hops-record g = keeps.leaves ∙ rw (none-applies, g.not-arrived, ← g.by-rule, g.lawfully)

    pub arrived-answer : arrived (trip_to network columns rows map d) a ≡ true → moved_told m ≡ there
    unfolding told is_there arrived at_destination
    arrived-answer e = keeps.answers ∙ rw (none-applies, e)

    pub arrived-record : arrived (trip_to network columns rows map d) a ≡ true → after ≡ packet_at a d
    unfolding record_after is_there arrived at_destination
    arrived-record e = keeps.leaves ∙ rw (none-applies, e)
