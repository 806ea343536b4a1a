-- A hop is tested in the order of the definition, so each mistake is the first whose test holds. Assumes nothing.
use Rattle.std.proofs.Common.{◌≡◌, refl, sym, ◌∙◌, Bool, true, false, ℕ, Option, Some, None, Result, Err}
use Rattle.mesh.specs.declared.TurnRule.{TurnRule}
use Rattle.mesh.specs.declared.TurnRule.TheVariants.{Rule1, Rule2}
use Rattle.mesh.specs.declared.Heading.{Heading}
use Rattle.mesh.specs.declared.Heading.TheVariants.{East as E, North as N, South as S, West as W}
use Rattle.mesh.specs.declared.Mistake.{Mistake}
use Rattle.mesh.specs.declared.Mistake.TheVariants.{LeavesMesh, Reverses, BreaksRule1, BreaksRule2, EntersBlock}
use Rattle.mesh.specs.declared.Network.{Network}
use Rattle.mesh.specs.declared.Packet.{Packet}
use Rattle.mesh.specs.Mesh.{Mesh}
use Rattle.mesh.specs.Headings.{row_after, column_after, opposite, same, last_is}
use Rattle.mesh.specs.Parity.{turns_west}
use Rattle.mesh.specs.Tests.{first}
use Rattle.mesh.specs.Numbers.{mistake_number}
use Rattle.mesh.specs.Nodes.{bad, ahead}
use Rattle.mesh.specs.Turns.{breaks, turn_breaks, hop_breaks, reverses, turns_back}
use Rattle.mesh.specs.Rules.{blocked}
use Rattle.mesh.specs.Hops.{moved, stays, at, trip_of, moved_packet}
use Rattle.mesh.specs.Judging.{hop_tests, letter_mistake}
use Rattle.mesh.proofs.Headings.{same-heading}
use Rattle.hops.specs.Tests.{Tests, entered}

-- the node ahead is where a hop that stays on the mesh leads
ahead_after : (B : ℕ → ℕ → Bool) (columns rows r c : ℕ) (h : Heading) → stays columns rows h r c ≡ true →
    ahead B h 1 r c ≡ B (row_after h r) (column_after h c)
unfolding stays ahead row_after column_after
ahead_after B columns rows r c E s = refl
ahead_after B columns rows r c N s = refl
ahead_after B columns rows r c S s = rw s
ahead_after B columns rows r c W s = rw s

-- a hop straight on makes no turn
same_ahead : (h : Heading) → reverses h h ≡ false
unfolding reverses opposite same
same_ahead E = refl
same_ahead N = refl
same_ahead S = refl
same_ahead W = refl

same-may : (west : ℕ → Bool) (c : ℕ) (h : Heading) → turn_breaks west c h h ≡ None
unfolding turn_breaks breaks same
same-may west c E = refl
same-may west c N = refl
same-may west c S = refl
same-may west c W = refl

pub straight-ahead : (l : Option Heading) (h : Heading) → last_is l h ≡ true → turns_back l h ≡ false
unfolding last_is turns_back
straight-ahead None h e = refl
straight-ahead (Some g) h e = rw (same-heading g h e) (same_ahead h)

pub straight-may : (west : ℕ → Bool) (c : ℕ) (l : Option Heading) (h : Heading) → last_is l h ≡ true → hop_breaks west c l h ≡ None
unfolding last_is hop_breaks
straight-may west c None h e = refl
straight-may west c (Some g) h e = rw (same-heading g h e) (same-may west c h)

module _ (network : Network) (w : Mesh) (p : Packet) (h : Heading) where
  wrong : (m : Mistake) → mistake_number m ≡ letter_mistake (trip_of network w p) (at p) (Some h) → Tests network w p h (Err m)
  wrong m e = record { told = e; onward = λ q. cc }

  module _ {s : Bool} (is-s : s ≡ stays w.columns w.rows h p.place.row.0 p.place.column.0) where
    pub leaves : s ≡ false → Tests network w p h (Err LeavesMesh)
    unfolding letter_mistake hop_tests first
    leaves e = wrong LeavesMesh (rw (← is-s, e))

    module _ (on : s ≡ true) {b : Bool} (is_b : b ≡ turns_back p.last h) where
      pub turns-back : b ≡ true → Tests network w p h (Err Reverses)
      unfolding letter_mistake hop_tests first
      turns-back e = wrong Reverses (rw (← is-s, on, ← is_b, e))

      module _ (ahead : b ≡ false) {t : Option TurnRule} (is-t : t ≡ hop_breaks (turns_west network) p.place.column.0 p.last h) where
        pub breaks-1 : t ≡ (Some Rule1) → Tests network w p h (Err BreaksRule1)
        unfolding letter_mistake hop_tests first
        breaks-1 e = wrong BreaksRule1 (rw (← is-s, on, ← is_b, ahead, ← is-t, e))

        pub breaks-2 : t ≡ (Some Rule2) → Tests network w p h (Err BreaksRule2)
        unfolding letter_mistake hop_tests first
        breaks-2 e = wrong BreaksRule2 (rw (← is-s, on, ← is_b, ahead, ← is-t, e))

    module _ (on : s ≡ true) {q : Packet} (is-q : q ≡ moved_packet h p) where
      is-blocked : bad w q.place.row.0 q.place.column.0 ≡ blocked (trip_of network w p) h 1 p.place.row.0 p.place.column.0
      unfolding blocked moved
      is-blocked =
          rw is-q (sym (ahead_after (bad w) w.columns w.rows p.place.row.0 p.place.column.0 h (sym is-s ∙ on)))

      module _ (ahead : turns_back p.last h ≡ false) (may : hop_breaks (turns_west network) p.place.column.0 p.last h ≡ None) where
        by-block : (x : Bool) → bad w q.place.row.0 q.place.column.0 ≡ x → Tests network w p h (entered w q)
        unfolding entered letter_mistake hop_tests first
        by-block true e = rw e (wrong EntersBlock (rw (← is-s, on, ahead, may, ← is-blocked, e)))
        by-block false e =
            rw e
            (record {
              told = rw (← is-s, on, ahead, may, ← is-blocked, e);
              onward = λ {after} same. let z : after ≡ q = cc in z ∙ is-q;
            })

        pub enters : {x : Result Packet Mistake} → x ≡ entered w q → Tests network w p h x
        enters e = rw e (by-block _ refl)
