-- How many letters a passed hand_in has at most, and one that has as many. Assumes nothing.
use Rattle.std.proofs.Common.{◌≡◌, refl, sym, ◌∙◌, true, false, List, [], ◌∷◌, ℕ, ◌-◌, ◌*◌, ◌≤◌, ◌<◌, zero-add, arith, eq-eqb, length}
use Rattle.std.proofs.lemmas.Bool.{and_from}
use Rattle.std.proofs.lemmas.List.{length-replicate}
use Rattle.mesh.specs.declared.Network.{Network}
use Rattle.mesh.specs.declared.Place.{Place}
use Rattle.mesh.specs.Mesh.{Mesh, mesh, place}
use Rattle.mesh.specs.declared.Heading.{Heading}
use Rattle.mesh.specs.Headings.{letters}
use Rattle.mesh.specs.Tests.{first}
use Rattle.mesh.specs.Nodes.{bad}
use Rattle.mesh.specs.Rounds.{marked}
use Rattle.mesh.specs.Rules.{trip_on, blocked, at_destination}
use Rattle.mesh.specs.Hops.{At, fresh, moved, lawful}
use Rattle.mesh.specs.Walk.{arrived, lawful_route}
use Rattle.mesh.specs.Maps.{map_tests}
use Rattle.mesh.specs.Requests.{off_mesh, in_block, place_tests}
use Rattle.mesh.specs.Judging.{passed}
use Rattle.mesh.proofs.Hops.{is-on-mesh}
use Rattle.mesh.proofs.Lists.{letters-length}
use Rattle.mesh.proofs.Maps.{size-good, accepted, map-numbered}
use Rattle.mesh.proofs.NoFaults.{no_faults, no-faults-pass, no-faults-bad}
use Rattle.mesh.proofs.Tests.{clear-before, clear_next}
use Rattle.theory_blocks.proofs.Theorems.{one-round, one-round-without-faults}
use Rattle.theory_judging.specs.Claims.{lawful_hops, after, refusal_of, trip_to}
use Rattle.theory_judging.proofs.Theorems.{route-is-lawful, judgement-of-route}
use Rattle.theory_channels.specs.Waiting.{HandIn, verdict}
use Rattle.theory_channels.specs.Claims.{OnMesh, most_lawful, PassedWith}
use Rattle.theory_channels.proofs.Routes.{after_on, clear, source-on, spells, hops-lawful}
use Rattle.theory_channels.proofs.Longest.{walk-short, most-of-all}
use Rattle.theory_channels.proofs.Tour.{Rest, tour}

-- A passed hand_in spells a lawful walk, so it is no longer.
module _ (network : Network) (columns rows : ℕ) (map : List ℕ) (h : HandIn) {n : ℕ}
    (e : verdict network columns rows map h ≡ passed n) where
  pub passed-short : length h.letters ≤ most_lawful columns rows
  passed-short =
      let s = spells network columns rows map h e in
      let size : length s.hops ≡ length h.letters = sym (letters-length s.hops) ∙ rw s.spelled in
      let t = trip_to network columns rows map h.destination in
      let on = source-on network columns rows map h e in
      omega (arith, walk-short t (fresh h.source) s.hops on (hops-lawful network columns rows map h e))

  pub passed-few : length h.letters ≤ most_lawful 64 64
  passed-few =
      let tests = place_tests (marked (mesh columns rows map)) h.source h.destination in
      let a = accepted (clear-before (map_tests columns rows map) tests (clear network columns rows map h e)) in
      omega (arith, passed-short, most-of-all columns rows a.few-columns a.few-rows)

-- Which hops are lawful doesn't depend on the destination.
any-destination : (n : Network) (w : Mesh) (d e : Place) (p : At) (hs : List Heading) → lawful_hops (trip_on n w d) p hs ≡ lawful_hops (trip_on n w e) p hs
unfolding lawful_hops lawful blocked
any-destination n w d e p [] = refl
any-destination n w d e p (h ∷ hs) = rw (any-destination n w d e (moved h p) hs)

-- On a mesh without faults the tour is a hand_in that is passed.
module _ (network : Network) (columns rows : ℕ) (wide : 1 ≤ columns) (few-columns : columns ≤ 64) (tall : 2 ≤ rows) (few-rows : rows ≤ 64) where
  abbrev w : Mesh
  w = mesh columns rows (no_faults columns rows)

  none-marked : (r c : ℕ) → bad (marked w) r c ≡ false
  none-marked r c =
      let size = length-replicate {A = ℕ} (columns * rows) 0 in
      rw ((one-round w size).0 (one-round-without-faults w size (no-faults-bad columns rows))) (no-faults-bad columns rows r c)

  abbrev source : Place
  source = place 0 (columns - 1)

  whole : Rest (trip_on network (marked w) source) 0 (fresh source)
  whole = tour (trip_on network (marked w) source) none-marked tall wide

  abbrev end : At
  end = after whole.hops (fresh source)

  abbrev destination : Place
  destination = place end.row end.column

  source-there : OnMesh (trip_on network (marked w) source) (fresh source)
  source-there = record { row = omega arith; column = omega arith }

  end-there : OnMesh (trip_on network (marked w) source) end
  end-there = after_on (trip_on network (marked w) source) (fresh source) whole.hops source-there whole.are-lawful

  not-off : (r c : ℕ) → r < rows → c < columns → off_mesh (marked w) (place r c) ≡ false
  unfolding off_mesh
  not-off r c i j = rw (is-on-mesh (marked w) r c i j)

  tour-clear : refusal_of columns rows (no_faults columns rows) source destination ≡ 0
  unfolding first place_tests in_block
  tour-clear =
      clear_next (map_tests columns rows (no_faults columns rows)) (place_tests (marked w) source destination) (map-numbered columns rows (no_faults columns rows))
      (no-faults-pass columns rows (size-good columns wide few-columns) (size-good rows (omega arith) few-rows))
      ∙ rw (
        not-off 0 (columns - 1) (omega arith) (omega arith),
        not-off end.row end.column end-there.row end-there.column,
        none-marked 0 (columns - 1),
        none-marked end.row end.column,
      )

  tour-route : lawful_route (trip_to network columns rows (no_faults columns rows) destination) (fresh source) whole.hops ≡ true
  unfolding arrived at_destination
  tour-route =
      (route-is-lawful (trip_on network (marked w) destination) (fresh source) whole.hops).1 (
        any-destination network (marked w) destination source (fresh source) whole.hops ∙ whole.are-lawful,
        and_from _ _ (eq-eqb end.row _ refl) (eq-eqb end.column _ refl),
      )

  pub longest : PassedWith network columns rows (no_faults columns rows) (most_lawful columns rows)
  longest =
      record {
        hand_in = record { source = source; destination = destination; letters = letters whole.hops };
        is-passed = (_, judgement-of-route network columns rows (no_faults columns rows) source destination tour-clear whole.hops tour-route);
        count = letters-length whole.hops ∙ sym (zero-add (length whole.hops)) ∙ whole.whole;
      }
