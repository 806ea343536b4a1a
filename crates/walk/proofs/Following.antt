-- A leg of hops by the rules takes the walk on, and where the packet is there the walk ends. Assumes nothing.
use Rattle.std.proofs.Common.{◌≡◌, refl, sym, ◌∙◌, true, false, List, [], ◌∷◌, ℕ, zero, suc, ◌+◌, ◌-◌, ◌≤◌, ◌<◌, length, arith}
use Rattle.std.proofs.Math.Nat.{add-zero}
use Rattle.std.proofs.Math.Dec.{leb}
use Rattle.std.proofs.Math.ListN.{set, replicate}
use Rattle.std.proofs.lemmas.Bool.{le-leb}
use Rattle.mesh.specs.declared.Heading.{Heading}
use Rattle.mesh.specs.declared.Network.{Network}
use Rattle.mesh.specs.declared.Packet.{Packet}
use Rattle.mesh.specs.declared.Place.{Place}
use Rattle.mesh.specs.Mesh.{Mesh}
use Rattle.mesh.specs.Headings.{row_after, column_after, letter, letters}
use Rattle.mesh.specs.Rules.{Trip, at_destination, other_row, hop}
use Rattle.mesh.specs.Hops.{At, stays, lawful, moved, at, trip_of, is_there, moved_packet}
use Rattle.mesh.specs.Walk.{arrived, lawful_route, hop_at, walk}
use Rattle.mesh.specs.Moving.{hop_from}
use Rattle.mesh.proofs.Bools.{and_both, or-none}
use Rattle.theory_walk.specs.Claims.{most_hops}
use Rattle.hops.specs.Moved.{moved_by, Lands}
use Rattle.hops.proofs.Landing.{stays-lands, stays_on}
use Rattle.buffers.specs.Over.{over}
use Rattle.buffers.proofs.Over.{over-length}
use Rattle.nodes.specs.Sized.{Sized, OnMesh}
use Rattle.rules.specs.Rows.{in_its_row, nears_row}
use Rattle.travel.specs.Straight.{goes_straight, after, Runs}
use Rattle.travel.proofs.Runs.{after-moved, runs-one}
use Rattle.walk.specs.Following.{Leads, rest, hop_limit, Going, Follows}

-- the first hop of a walk that leads to the destination
pub record Hops (m n : ℕ) (t : Trip) (p : At) : Type 0 where
  pub walks : walk n t p ≡ hop_at t p ∷ walk m t (moved (hop_at t p) p)
  pub lawfully : lawful t p (hop_at t p) ≡ true
  pub onward : Leads m t (moved (hop_at t p) p)

leads-hop : (m n : ℕ) (t : Trip) (p : At) → n ≡ suc m → Leads n t p → arrived t p ≡ false → Hops m n t p
unfolding walk lawful_route
leads-hop m n t p e l away =
    let walks : walk n t p ≡ hop_at t p ∷ walk m t (moved (hop_at t p) p) = rw (e, away) in
    let (lawfully, route) = and_both {a = lawful t p (hop_at t p)} (rw walks at l.lawfully) in
    let fewer = rw walks at l.enough in
    record { walks = walks; lawfully = lawfully; onward = record { lawfully = route; enough = omega arith } }

there-arrived : (network : Network) (w : Mesh) (p : Packet) → is_there p ≡ arrived (trip_of network w p) (at p)
unfolding is_there arrived at_destination
there-arrived network w p = refl

walk-there : (n : ℕ) (t : Trip) (p : At) → arrived t p ≡ true → walk n t p ≡ []
unfolding walk
walk-there zero t p e = refl
walk-there (suc n) t p e = rw e

pub follows-there : (network : Network) (w : Mesh) (p : Packet) (out : List ℕ) (made : ℕ) → is_there p ≡ true → Follows network w p out made made out
unfolding letters over
follows-there network w p out made e =
    let none = walk-there (hop_limit - made) (trip_of network w p) (at p) (sym (there-arrived network w p) ∙ e) in
    record { counts = rw none (omega arith); writes = rw none }

module _ {network : Network} {w : Mesh} {p : Packet} {made : ℕ} (g : Going network w p made) where
  going-few : made < hop_limit
  going-few = omega (arith, g.leads.enough)

  module _ (away : is_there p ≡ false) where
    first : Hops (hop_limit - (made + 1)) (hop_limit - made) (trip_of network w p) (at p)
    first =
        leads-hop (hop_limit - (made + 1)) (hop_limit - made) (trip_of network w p) (at p) (omega (arith, going-few)) g.leads
        (sym (there-arrived network w p) ∙ away)

    first-stays : stays w.columns w.rows (hop_from network w p) p.place.row.0 p.place.column.0 ≡ true
    unfolding lawful hop_from
    first-stays = (and_both first.lawfully).0

    module _ {h : Heading} (is-h : h ≡ hop_from network w p) where
      lands-one : Sized w.columns w.rows w.map → Lands h 1 p.place.row.0 p.place.column.0
      lands-one sized = rw is-h (stays-lands g.on-mesh.here sized _ first-stays)

      going_on : Going network w (moved_packet h p) (made + 1)
      unfolding hop_from moved
      going_on =
          rw is-h
          (record {
            on-mesh = record { here = stays_on g.on-mesh.here _ first-stays; there = g.on-mesh.there };
            leads = first.onward;
          })

      follows_on : {out : List ℕ} {x : ℕ} {after : List ℕ} →
          Follows network w (moved_packet h p) (set out made (letter h)) (made + 1) x after → Follows network w p out made x after
      unfolding hop_from moved letters over
      follows_on f =
          let f' = rw is-h at f in
          record { counts = rw first.walks (omega (arith, f'.counts)); writes = rw first.walks f'.writes }

lands-none : {w : Mesh} {h : Heading} {p : Place} → Sized w.columns w.rows w.map → OnMesh w p → Lands h 0 p.row.0 p.column.0
lands-none sized on =
    record {
      row = omega (arith, on.row, sized.few-rows);
      column = omega (arith, on.column, sized.few-columns);
      hops = omega arith;
      south = λ e. omega arith;
      west = λ e. omega arith;
    }

-- n hops that way by the rules
record Ran (network : Network) (w : Mesh) (h : Heading) (n : ℕ) (p : Packet) (made : ℕ) : Type 0 where
  pub going : Going network w (after n h p) (made + n)
  pub onward : {out : List ℕ} {x : ℕ} {end : List ℕ} →
      Follows network w (after n h p) (over out made (replicate n (letter h))) (made + n) x end →
      Follows network w p out made x end
  pub few : made + n < hop_limit
  pub lands : Lands h n p.place.row.0 p.place.column.0

-- after a hop that lands n hops more do
lands-more : (h : Heading) {n r c : ℕ} → Lands h 1 r c → Lands h n (row_after h r) (column_after h c) → suc n < 65536 → Lands h (suc n) r c
unfolding row_after column_after
lands-more h one more few =
    record {
      row = one.row;
      column = one.column;
      hops = few;
      south = λ e. omega (arith, one.south e, rw e at (more.south e));
      west = λ e. omega (arith, one.west e, rw e at (more.west e));
    }

ran : {network : Network} {w : Mesh} (sized : Sized w.columns w.rows w.map) {h : Heading} (n : ℕ) {p : Packet} {made : ℕ} → Going network w p made →
    ((i : ℕ) → i < n → is_there (after i h p) ≡ false) → ((i : ℕ) → i < n → h ≡ hop_from network w (after i h p)) →
    Ran network w h n p made
unfolding after over moved
ran sized zero g away hops =
    record { going = rw add-zero g; onward = λ f. rw add-zero at f; few = rw add-zero (going-few g); lands = lands-none sized g.on-mesh.here }
ran sized {h = h} (suc n) {p} {made} g away hops =
    let next = ran sized n (going_on g (away 0 (omega arith)) (hops 0 (omega arith))) (λ i less. away (suc i) (omega arith)) (λ i less. hops (suc i) (omega arith)) in
    let m : made + 1 + n ≡ made + suc n = omega arith in
    record {
      going = rw (← m) next.going;
      onward = λ f. follows_on g (away 0 (omega arith)) (hops 0 (omega arith)) (next.onward (rw (← m) at f));
      few = omega (arith, next.few);
      lands = lands-more h (lands-one g (away 0 (omega arith)) (hops 0 (omega arith)) sized) next.lands (omega (arith, next.few));
    }

after-some : (n : ℕ) (h : Heading) (p : Packet) → 1 ≤ n → moved_by h n p ≡ after n h p
after-some zero h p some = absurd (omega arith)
after-some (suc n) h p some = sym (after-moved n h p)

-- a hop round a block is a leg of one
pub round-one : {network : Network} {w : Mesh} {p : Packet} {h : Heading} → goes_straight p ≡ false →
    h ≡ other_row (trip_of network w p) p.place.row.0 p.place.column.0 p.last → Runs network w h 1 p
unfolding in_its_row is_there hop_from hop_at hop
round-one {network} {w} {p} {h} off is-h =
    let row = (or-none (in_its_row p) (nears_row p) off).0 in
    runs-one network w h p (rw row) (rw row is-h)

-- from p₀ with begun hops made the packet has come to p with made of them
pub record Along (network : Network) (w : Mesh) (p₀ : Packet) (out₀ : List ℕ) (begun : ℕ) (p : Packet) (out : List ℕ) (made : ℕ) : Type 0 where
  pub sized : Sized w.columns w.rows w.map
  pub going : Going network w p made
  pub onward : {x : ℕ} {after : List ℕ} → Follows network w p out made x after →
      Follows network w p₀ out₀ begun x after
  pub grew : begun ≤ made
  pub size : length out ≡ length out₀

pub along-none : {network : Network} {w : Mesh} {p : Packet} {out : List ℕ} {made : ℕ} → Sized w.columns w.rows w.map →
    Going network w p made → Along network w p out made p out made
along-none sized g = record { sized = sized; going = g; onward = λ f. f; grew = omega arith; size = refl }

module _ {network : Network} {w : Mesh} {p₀ : Packet} {out₀ : List ℕ} {begun : ℕ} {p : Packet} {out : List ℕ} {made : ℕ}
    (a : Along network w p₀ out₀ begun p out made) where
  module _ {h : Heading} {n : ℕ} (r : Runs network w h n p) where
    pub along-few : made + n < hop_limit
    along-few = (ran a.sized n a.going r.away r.hops).few

    pub along-lands : Lands h n p.place.row.0 p.place.column.0
    along-lands = (ran a.sized n a.going r.away r.hops).lands

    pub along-leg : {q : Packet} {out' : List ℕ} → 1 ≤ n → (q ≡ moved_by h n p) × (out' ≡ over out made (replicate n (letter h))) →
        Along network w p₀ out₀ begun q out' (made + n)
    along-leg {q} {out'} some is-on =
        let on = ran a.sized n a.going r.away r.hops in
        let is-q : q ≡ after n h p = is-on.0 ∙ after-some n h p some in
        rw (is-q, is-on.1)
        (record {
          sized = a.sized;
          going = on.going;
          onward = λ f. a.onward (on.onward f);
          grew = omega (arith, a.grew);
          size = over-length out made (replicate n (letter h)) ∙ a.size;
        })

-- an output with room for any route has room for this one
pub room-enough : {network : Network} {w : Mesh} {p : Packet} (room : ℕ) → Going network w p 0 →
    most_hops ≤ room → true ≡ leb (length (rest 0 network w p)) room
room-enough room g h = sym (le-leb _ room (omega (arith, g.leads.enough)))
