-- The hops of a leg: rule 2 where the packet is not stopped, rule 5 where the next node is free. Assumes nothing.
use Rattle.std.proofs.Common.{◌≡◌, refl, sym, ◌∙◌, Bool, true, false, ◌&&◌, ℕ, zero, suc, ◌+◌, ◌-◌, ◌≤◌, ◌<◌, Option, Some, arith}
use Rattle.std.specs.Int.{abs_diff}
use Rattle.std.proofs.Math.Bool.{and-false}
use Rattle.std.proofs.Math.Decide.{dec_lt}
use Rattle.std.proofs.Math.Dec.{eqb}
use Rattle.std.proofs.lemmas.Bool.{lt-ltb, le-ltb, eqb-false}
use Rattle.mesh.specs.declared.Heading.{Heading}
use Rattle.mesh.specs.declared.Heading.TheVariants.{North as N, South as S, West as W}
use Rattle.mesh.specs.declared.Network.{Network}
use Rattle.mesh.specs.declared.Packet.{Packet}
use Rattle.mesh.specs.Mesh.{Mesh, place}
use Rattle.mesh.specs.Nodes.{bad}
use Rattle.mesh.specs.Rules.{Trip, blocked, side, toward, own, stopped, again, in_row, nearing, other_row, hop}
use Rattle.mesh.specs.Hops.{moved, trip_of, packet_at, is_there, moved_packet}
use Rattle.mesh.specs.Walk.{hop_at}
use Rattle.mesh.specs.Moving.{hop_from}
use Rattle.mesh.proofs.Bools.{and_right}
use Rattle.nodes.specs.Sized.{Sized, OnMesh}
use Rattle.hops.specs.Moved.{row_by, column_by, moved_by, Lands, Reaches, Free}
use Rattle.hops.proofs.Ways.{row-none, column-none, row_next, column-next, row-add, column-add, ahead-free, ahead-bad, reaches-lands, reaches-on}
use Rattle.rules.specs.Rows.{in_its_row, nears_row}
use Rattle.rules.proofs.Rules.{last_made, last-self, stopped-second, near_again}
use Rattle.travel.specs.Straight.{BothOnMesh, after, Runs, Unstopped}
use Rattle.travel.proofs.Ways.{side-stays, side-reaches, side-row, toward-stays, toward-reaches}

last_by : ℕ → Heading → Option Heading → Option Heading
last_by zero h l = l
last_by (suc i) h l = Some h

last-stays : (i : ℕ) (h : Heading) → last_by i h (Some h) ≡ Some h
unfolding last_by
last-stays zero h = refl
last-stays (suc i) h = refl

-- the record after i hops that way
after_is : (i : ℕ) (h : Heading) (p : Packet) →
    after i h p ≡ packet_at (record { row = row_by h i p.place.row.0; column = column_by h i p.place.column.0; last = last_by i h p.last }) p.destination
unfolding after last_by moved
after_is zero h p = rw (row-none h p.place.row.0, column-none h p.place.column.0)
after_is (suc i) h p =
    after_is i h (moved_packet h p) ∙
    rw (row_next h i p.place.row.0, column-next h i p.place.column.0, last-stays i h)

pub after-moved : (i : ℕ) (h : Heading) (p : Packet) → after (suc i) h p ≡ moved_by h (suc i) p
unfolding moved_by last_by
after-moved i h p = after_is (suc i) h p

-- no hops at all
runs_none : (network : Network) (w : Mesh) (h : Heading) (p : Packet) → Runs network w h 0 p
runs_none network w h p = record { away = λ i less. absurd (omega arith); hops = λ i less. absurd (omega arith) }

-- one hop
pub runs-one : (network : Network) (w : Mesh) (h : Heading) (p : Packet) → is_there p ≡ false → h ≡ hop_from network w p → Runs network w h 1 p
unfolding after
runs-one network w h p away is-h =
    record {
      away = λ i less. let e : i ≡ 0 = omega arith in rw e away;
      hops = λ i less. let e : i ≡ 0 = omega arith in rw e is-h;
    }

-- rule 2, not stopped
hop-in-row : (t : Trip) (r c : ℕ) (l : Option Heading) {s : Heading} → eqb r t.R ≡ true → stopped t r c ≡ false → side t c ≡ s → s ≡ hop t r c l
unfolding hop in_row
hop-in-row t r c l on not_stopped is-side = rw (on, not_stopped, is-side)

-- before the last free node neither of the next two is in a block
open-before : (t : Trip) {s : Heading} {n r c x : ℕ} (i : ℕ) → Free t.bad s n r c x → i + 2 ≤ x → side t (column_by s i c) ≡ s →
    stopped t (row_by s i r) (column_by s i c) ≡ false
unfolding stopped blocked
open-before t {s} {n} {r} {c} {x} i f le is-side =
    let one = ahead-free t.bad s 1 (row_by s i r) (column_by s i c) (rw (row-add s i 1 r, column-add s i 1 c) (f.free (i + 1) (omega arith) (omega arith))) in
    let two = ahead-free t.bad s 2 (row_by s i r) (column_by s i c) (rw (row-add s i 2 r, column-add s i 2 c) (f.free (i + 2) (omega arith) (omega arith))) in
    rw (is-side, one, two, and-false)

-- rule 5, the next node free
hop-nearing : (t : Trip) (h : Heading) (r c : ℕ) → toward t r ≡ h → eqb r t.R ≡ false → blocked t h 1 r c ≡ false → h ≡ hop t r c (Some h)
unfolding hop other_row nearing toward
hop-nearing t h r c is-h off free =
    elim (dec_lt r t.R) [
      | yes less ↦
          let e = lt-ltb r t.R less in
          let n : N ≡ h = rw e at is-h in
          let free' = rw (← n) at free in
          rw (← n, off, e, free')
      | no more ↦
          let e = le-ltb r t.R (omega arith) in
          let s : S ≡ h = rw e at is-h in
          let free' = rw (← s) at free in
          rw (← s, off, e, free')
    ]

-- at a stop in the destination's row
pub leaves-row : (network : Network) (w : Mesh) {p : Packet} → in_its_row p ≡ true → is_there p ≡ false → {h : Heading} → h ≡ again p.last →
    stopped (trip_of network w p) p.place.row.0 p.place.column.0 ≡ true → Runs network w h 1 p
unfolding in_its_row hop_from hop_at hop in_row
leaves-row network w {p} on away is-h stop = runs-one network w _ p away (rw (on, stop) is-h)

module _ (network : Network) {w : Mesh} {p : Packet} (g : BothOnMesh w p) (sized : Sized w.columns w.rows w.map) where
  -- the trip, and where the packet is
  abbrev t : Trip
  t = trip_of network w p

  abbrev r : ℕ
  r = p.place.row.0

  abbrev c : ℕ
  c = p.place.column.0

  -- in the destination's row, n columns from it, of which x are free
  module _ (on : in_its_row p ≡ true) {n : ℕ} (is-n : n ≡ abs_diff c p.destination.column.0) {s : Heading}
      (is-s : s ≡ side t c) where
    pub row-reaches : Reaches w.columns w.rows s n r c
    row-reaches = rw is-s (side-reaches t c (omega arith) r g.here.row g.here.column g.there.column sized.few-columns)

    way : (i : ℕ) → i < n →
        (side t (column_by s i c) ≡ s) × (eqb (column_by s i c) p.destination.column.0 ≡ false)
    way = rw is-s (side-stays t c {n = n} (omega arith))

    row-runs : {k : ℕ} → k ≤ n →
        ((i : ℕ) → i < k → stopped t (row_by s i r) (column_by s i c) ≡ false) →
        Runs network w s k p
    unfolding is_there hop_from hop_at in_its_row
    row-runs {k} most free =
        let stays : (i : ℕ) → row_by s i r ≡ r = λ i. rw is-s (side-row t c i r) in
        record {
          away = λ i less. rw (after_is i s p, stays i, (way i (omega arith)).1) (and-false (eqb r p.destination.row.0));
          hops = λ i less. rw (after_is i s p) (hop-in-row t _ _ _ (rw (stays i) on) (free i less) (way i (omega arith)).0);
        }

    module _ {x : ℕ} (f : Free (bad w) s n r c x) where
      before : (i : ℕ) → i + 2 ≤ x →
          stopped t (row_by s i r) (column_by s i c) ≡ false
      before i le = open-before t i f le (way i (omega (arith, f.most))).0

      pub row-lands : Lands s (x - 1) r c
      row-lands = reaches-lands row-reaches sized (omega (arith, f.most))

      pub row_on : OnMesh w (place (row_by s (x - 1) r) (column_by s (x - 1) c))
      row_on =
          let on = reaches-on s row-reaches (x - 1) (omega (arith, f.most)) in
          record { row = on.0; column = on.1 }

      -- the first node that way is bad
      pub unstopped-none : is_there p ≡ false → x ≡ 0 → Unstopped network w s 0 p
      unfolding stopped blocked is_there in_its_row
      unstopped-none away none =
          let off = eqb-false c p.destination.column.0 (and_right (eqb r p.destination.row.0) (eqb c p.destination.column.0) on away) in
          let some : 0 < n = elim (dec_lt 0 n) [ yes h ↦ h | no h ↦ absurd (off (omega arith)) ] in
          let next = rw none at (f.ends (omega arith)) in
          let stop = ahead-bad (bad w) s (λ e. omega (arith, row-reaches.south e)) (λ e. omega (arith, row-reaches.west e)) next in
          record { runs = runs_none network w s p; stops = λ e. rw (← is-s, stop) }

      -- at the last free node but one only the second node may stop the packet
      module _ (some : 1 ≤ x) {y : Bool} (second : y ≡ own t s (column_by s (x - 1) c) &&
          blocked t s 2 (row_by s (x - 1) r) (column_by s (x - 1) c)) where
        is-stopped : y ≡ stopped t (row_by s (x - 1) r) (column_by s (x - 1) c)
        unfolding blocked
        is-stopped =
            let here = x - 1 in
            let on-side = (way here (omega (arith, f.most))).0 in
            let next-free = ahead-free (bad w) s 1 (row_by s here r) (column_by s here c) (rw (row-add s here 1 r, column-add s here 1 c) (f.free (here + 1) (omega arith) (omega arith))) in
            stopped-second t _ _ (sym on-side) (sym next-free) refl second

        pub unstopped-before : y ≡ true → Unstopped network w s (x - 1) p
        unstopped-before stop =
            record {
              runs = row-runs (omega (arith, f.most)) (λ i less. before i (omega arith));
              stops = λ e. rw (e, row-none s r, column-none s c) at (sym is-stopped ∙ stop);
            }

        pub unstopped-all : y ≡ false → Unstopped network w s x p
        unstopped-all last =
            record {
              runs = row-runs f.most (λ i less. elim (dec_lt (i + 1) x) [ yes h ↦ before i (omega arith) | no h ↦ (let e : i ≡ x - 1 = omega arith in rw e (sym is-stopped ∙ last)) ]);
              stops = λ e. absurd (omega arith);
            }

  -- in another row, n rows from the destination's, of which x are free
  module _ (nears : nears_row p ≡ true) {n : ℕ} (is-n : n ≡ abs_diff r p.destination.row.0) {h : Heading}
      (is-h : h ≡ toward t r) where
    pub column-reaches : Reaches w.columns w.rows h n r c
    column-reaches = rw is-h (toward-reaches t r (omega arith) c g.here.row g.here.column g.there.row sized.few-rows)

    onward : (i : ℕ) → i < n →
        (toward t (row_by h i r) ≡ h) × (eqb (row_by h i r) p.destination.row.0 ≡ false)
    onward = rw is-h (toward-stays t r {n = n} (omega arith))

    was : p.last ≡ Some h
    unfolding nears_row toward
    was = last_made p.last h (rw is-h nears)

    pub column-runs : {x : ℕ} → Free (bad w) h n r c x →
        Runs network w h x p
    unfolding is_there hop_from hop_at blocked
    column-runs {x} f =
        record {
          away = λ i less. rw (after_is i h p, (onward i (omega (arith, f.most))).1);
          hops = λ i less.
              let next = ahead-free (bad w) h 1 (row_by h i r) (column_by h i c) (rw (row-add h i 1 r, column-add h i 1 c) (f.free (i + 1) (omega arith) (omega arith))) in
              let e = onward i (omega (arith, f.most)) in
              rw (after_is i h p, was, last-stays i h) (hop-nearing t h _ _ e.0 e.1 next);
        }

    -- before a block
    pub leaves-column : in_its_row p ≡ false → Free (bad w) h n r c 0 →
        Runs network w W 1 p
    unfolding in_its_row is_there hop_from hop_at hop nearing blocked
    leaves-column off f =
        let apart = eqb-false r p.destination.row.0 off in
        let some : 0 < n = elim (dec_lt 0 n) [ yes h ↦ h | no h ↦ absurd (apart (omega arith)) ] in
        let block = ahead-bad (bad w) h (λ e. omega (arith, column-reaches.south e)) (λ e. omega (arith, column-reaches.west e)) (f.ends some) in
        runs-one network w W p (rw off)
        (rw off (near_again t _ _ _ is-h (rw (← is-h, was) (last-self h)) (rw block)))
