-- The cases of "Route" on a marking. Assumes nothing.
use Rattle.std.specs.Prelude.{None, Ok, Err, ⊤}
use mathlib.Core.Path.{◌≡◌, refl, sym, ap, ◌∙◌}
use mathlib.Core.Bool.{true, false, cond}
use mathlib.Core.List.{List, [], ◌∷◌}
use Prim.Native.Nat.{ℕ, ◌+◌, ◌≤◌, ◌<◌}
use native.Mathlib.Nat.{zero-add}
use native.Mathlib.Omega.{arith}
use borrow.Author.Tests.{leb-true, leb-false, lt-ltb, le-ltb}
use lib.Dec.{ltb, leb}
use lib.ListN.{length}
use Rattle.mesh.specs.declared.Heading.{Heading}
use Rattle.mesh.specs.declared.Refusal.{Refusal}
use Rattle.mesh.specs.declared.Refusal.TheVariants.{Room}
use Rattle.mesh.specs.declared.Network.{Network}
use Rattle.mesh.specs.declared.Packet.{Packet}
use Rattle.mesh.specs.declared.Place.{Place}
use Rattle.mesh.specs.Mesh.{Mesh, mesh}
use Rattle.mesh.specs.Headings.{letters}
use Rattle.mesh.specs.Tests.{Test, ◌gives◌, first}
use Rattle.mesh.specs.Numbers.{number, answer, written}
use Rattle.mesh.specs.Blocks.{blocks}
use Rattle.mesh.specs.Rules.{trip_on}
use Rattle.mesh.specs.Walk.{bound}
use Rattle.mesh.specs.Requests.{request_tests}
use Rattle.mesh.specs.Routing.{hops_of, send_tests}
use Rattle.mesh.proofs.Lists.{letters-length}
use Rattle.mesh.proofs.Numbers.{answer-refused, written-refused}
use Rattle.mesh.proofs.Tests.{told-refused, clear_next}
use Rattle.mesh.proofs.Requests.{Request, request-numbered, request}
use Rattle.theory_walk.proofs.Theorems.{destination-course, source-served, request-arrives, request-bound, same-walk}
use Rattle.nodes.specs.Sized.{Sized}
use Rattle.nodes.proofs.Lookup.{on-mesh}
use Rattle.buffers.specs.Over.{over}
use Rattle.buffers.proofs.Over.{over-all}
use Rattle.blocks.specs.Marking.{Marking}
use Rattle.walk.specs.Following.{hop_limit, rest, Going}
use Rattle.routing.specs.Marked.{RoutesOn}

abbrev pub start : Place → Place → Packet
start s d = record { place = s; last = None; destination = d }

module _ (network : Network) {w : Mesh} (s d : Place) {columns rows : ℕ} {map : List ℕ} (v : mesh columns rows map ≡ w) (z : Sized columns rows map) (m : Marking w) (clear : 0 ≡ first (request_tests network w s d)) where
  abbrev q : Request network w s d
  q = request w s d (sym clear)

  -- no route is longer than the limit
  bound-few : bound (trip_on network w d) (blocks w) s.row.0 s.column.0 < hop_limit
  bound-few = omega (arith, request-bound network w s d (rw (← v) z.few-columns) (rw (← v) z.few-rows) m.obstacles q)

  -- the hops of the request, as the two modes follow them
  pub rest-hops : rest 0 network w (start s d) ≡ hops_of network w s d
  unfolding hops_of
  rest-hops =
      same-walk (destination-course network w s d m.obstacles q.placed q.row-clear) _ _ (source-served network w s d q) hop_limit _ bound-few (omega arith)

  pub starts : Going network w (start s d) 0
  starts =
      let arrives = request-arrives network w s d m.obstacles q in
      record {
        on-mesh = record { here = on-mesh w s q.placed.source-on; there = on-mesh w d q.placed.destination-on };
        leads = record { lawfully = rw rest-hops arrives.route; enough = rw rest-hops (omega (arith, arrives.hops, bound-few)) };
      }

module _ (network : Network) (w : Mesh) (s d : Place) (out : List ℕ) where
  abbrev room : List Test
  room = ltb (length out) (length (hops_of network w s d)) gives 10 ∷ []

  refused : (why : Refusal) → first (send_tests network w s d out) ≡ number why → RoutesOn network w s d out (Err why) out
  refused why e =
      record { answers = rw e (sym (answer-refused why _)); writes = rw e (sym (written-refused why _ _)) }

  pub request-refused : (why : Refusal) → number why ≡ first (request_tests network w s d) → RoutesOn network w s d out (Err why) out
  unfolding send_tests
  request-refused why told = refused why (told-refused (request_tests network w s d) room {A = ⊤} {x = Err why} told refl)

  module _ (clear : 0 ≡ first (request_tests network w s d)) {hs : List Heading} (is-hs : hs ≡ hops_of network w s d) where
    only-room : first (send_tests network w s d out) ≡ cond (ltb (length out) (length (hops_of network w s d))) 10 0
    unfolding send_tests first
    only-room = clear_next (request_tests network w s d) room (request-numbered w s d network) (sym clear)

    pub room-refused : leb (length hs) (length out) ≡ false → RoutesOn network w s d out (Err Room) out
    room-refused h =
        let short : length out < length (hops_of network w s d) = rw (← is-hs) (leb-false (length hs) (length out) h) in
        refused Room (only-room ∙ ap (λ b. cond b 10 0) (lt-ltb _ _ short))

    pub routed : {n : ℕ} {after : List ℕ} → leb (length hs) (length out) ≡ true → n ≡ 0 + length hs →
        after ≡ over out 0 (letters hs) → RoutesOn network w s d out (Ok n) after
    unfolding answer written
    routed h counts writes =
        let fits : length (hops_of network w s d) ≤ length out = rw (← is-hs) (leb-true (length hs) (length out) h) in
        let none = only-room ∙ ap (λ b. cond b 10 0) (le-ltb _ _ fits) in
        record {
          answers = rw (none, counts, is-hs, zero-add);
          writes = rw (none, writes, is-hs) (over-all out (letters (hops_of network w s d)) (rw (letters-length (hops_of network w s d)) fits));
        }
