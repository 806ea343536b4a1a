-- The walk theorem and what goes with it: the walk by the hop rules arrives, lawfully and within the bound, unless the source is shut in or meets
-- the edge. It is shown for columns of two kinds that alternate, whichever of them permits which turns; each network is an instance. Assumes nothing.
use Rattle.std.proofs.Common.{◌≡◌, refl, ◌∙◌, true, false, not, ◌||◌, ◌↔◌, ◌⊎◌, inl, inr, List, ℕ, zero, suc, ◌≤◌, ◌<◌, arith, eqb-true, ne_eqb, eqb, length}
use Rattle.std.proofs.lemmas.Bool.{cases_Bool, and_parts, or_cases, or_parts, eqb-false, not-true}
use Rattle.std.proofs.Math.Bool.{and-false, or-false}
use Rattle.std.proofs.Math.Decide.{ℕ_discrete}
use Rattle.mesh.specs.declared.Heading.TheVariants.{West as W}
use Rattle.mesh.specs.declared.Network.{Network}
use Rattle.mesh.specs.declared.Network.TheVariants.{First, Second}
use Rattle.mesh.specs.declared.Place.{Place}
use Rattle.mesh.specs.Mesh.{Mesh, mesh, place}
use Rattle.mesh.specs.Parity.{turns_west}
use Rattle.mesh.specs.Rounds.{marked}
use Rattle.mesh.specs.Blocks.{Block, blocks}
use Rattle.mesh.specs.Rules.{Trip, blocked, trip_on}
use Rattle.mesh.specs.Hops.{fresh}
use Rattle.mesh.specs.Walk.{walk, shut_in, meets_edge, bound}
use Rattle.mesh.specs.Requests.{in_block, block_near_in_row, unserved}
use Rattle.mesh.specs.Routing.{hops_of}
use Rattle.mesh.proofs.Bools.{true-false}
use Rattle.mesh.proofs.Requests.{on_row, on-column, Placed, Request}
use Rattle.mesh.proofs.Maps.{Accepted}
use Rattle.mesh.proofs.Parity as parity
use Rattle.mesh.proofs.Parity.{turns-change}
use Rattle.theory_blocks.specs.Obstacles.{ObstaclesOf}
use Rattle.theory_blocks.proofs.Near.{row-is-clear}
use Rattle.theory_blocks.proofs.Theorems.{obstacles}
use Rattle.theory_walk.specs.Course.{Course, FreePlace, Served}
use Rattle.theory_walk.specs.Claims.{Arrives, most_hops, Fails, reached, OnTheWay}
use Rattle.theory_walk.proofs.Walks.{walks-agree, fails-unlawful, on-the-way-from}
use Rattle.theory_walk.proofs.Source.{start}
use Rattle.theory_walk.proofs.Arrival.{mode-arrives}
use Rattle.theory_walk.proofs.ShutIn.{edge-barred, west-fails, shut_by}
use Rattle.theory_walk.proofs.Longest.{bound-few}

-- from a source that meets the west edge some hop by the rules is unlawful
pub meets-edge-fails : (t : Trip) (r c : ℕ) → meets_edge t r c ≡ true → Fails t (fresh (place r c))
unfolding meets_edge
meets-edge-fails t r c e =
    let f = and_parts (not (t.west c)) _ e in
    let g = and_parts (eqb c 0) _ f.1 in
    west-fails t r c (eqb-false r t.R (not-true _ g.1)) (not-true _ f.0) (edge-barred t r c (eqb-true c 0 g.0))

module _ {t : Trip} {bs : List Block} (course : Course t bs) (r c : ℕ) where
  -- from a served source the walk is a lawful route within the bound, whatever number of hops above the bound is allowed
  pub walk-arrives : Served t r c → (m : ℕ) → bound t bs r c < m → Arrives t bs r c (walk m t (fresh (place r c)))
  walk-arrives src m h =
      let k = mode-arrives course (suc (bound t bs r c)) m (fresh (place r c)) h (start src (omega arith)) in
      record { route = k.0; hops = omega arith }

  -- any two such numbers give the same walk
  pub same-walk : Served t r c → (m n : ℕ) → bound t bs r c < m → bound t bs r c < n → walk m t (fresh (place r c)) ≡ walk n t (fresh (place r c))
  same-walk src m n h k =
      let a = walk-arrives src m h in
      let b = walk-arrives src n k in
      walks-agree t m n (fresh (place r c)) (omega arith) (omega arith)

  -- after each number of hops the packet is at a free place, and makes the walk's next hop, lawfully, or has arrived
  pub on-the-way : Served t r c → (m : ℕ) → bound t bs r c < m → (k : ℕ) → k ≤ length (walk m t (fresh (place r c))) →
      OnTheWay t (walk m t (fresh (place r c))) k (reached k t (fresh (place r c)))
  on-the-way src m h k i = on-the-way-from t m k (fresh (place r c)) src.place (walk-arrives src m h).route i

  -- from a shut-in source some hop by the rules is unlawful
  pub shut-in-fails : t.bad r c ≡ false → shut_in t r c ≡ true → Fails t (fresh (place r c))
  unfolding shut_in
  shut-in-fails free e =
      let f = and_parts (not (t.west c)) _ e in
      let g = and_parts (blocked t W 1 r c) _ f.1 in
      shut_by course (ℕ_discrete r t.R) free (not-true _ f.0) g.0 (or_cases _ _ g.1)

  -- refusal 9 comes to one condition: some hop by the rules is unlawful exactly if the source is shut in or meets the edge
  pub refusal-9 : FreePlace t r c → (shut_in t r c || meets_edge t r c ≡ true) ↔ Fails t (fresh (place r c))
  refusal-9 free = (λ e. fails (or_cases (shut_in t r c) _ e), λ f. known f (cases_Bool (shut_in t r c || meets_edge t r c)))
    where
      fails : (shut_in t r c ≡ true) ⊎ (meets_edge t r c ≡ true) → Fails t (fresh (place r c))
      fails (inl e) = shut-in-fails free.free e
      fails (inr e) = meets-edge-fails t r c e

      known : Fails t (fresh (place r c)) → (shut_in t r c || meets_edge t r c ≡ true) ⊎ (shut_in t r c || meets_edge t r c ≡ false) →
          shut_in t r c || meets_edge t r c ≡ true
      known f (inl e) = e
      known f (inr e) =
          let (free-west, off) = or_parts (shut_in t r c) (meets_edge t r c) e in
          let src : Served t r c = record { place = free; not-shut = free-west; off-edge = off } in
          absurd (fails-unlawful t (suc (bound t bs r c)) f (walk-arrives src _ (omega arith)).route)

-- the second network permits NW and SW in the columns in which the first forbids them
pub networks-exchanged : (w : Mesh) (d : Place) (c : ℕ) → (trip_on Second w d).west c ≡ not ((trip_on First w d).west c)
networks-exchanged w d c = parity.networks-exchanged c

-- on the first network no source meets the edge, so that refusal 9 is there the condition of document 01
pub first-off-edge : (w : Mesh) (d : Place) (r c : ℕ) → meets_edge (trip_on First w d) r c ≡ false
unfolding meets_edge turns_west
first-off-edge w d r zero = refl
first-off-edge w d r (suc c) = rw (ne_eqb (suc c) 0 (λ e. absurd (omega arith))) (and-false (not (turns_west First (suc c))))

pub first-refusal-9 : (w : Mesh) (s d : Place) → unserved First w s d ≡ shut_in (trip_on First w d) s.row.0 s.column.0
unfolding unserved
first-refusal-9 w s d = rw (first-off-edge w d s.row.0 s.column.0) (or-false (shut_in (trip_on First w d) s.row.0 s.column.0))

-- a source that refusal 9 refuses is in a column that forbids NW and SW, so on the other network 9 lets it pass
unserved-column : (n : Network) (w : Mesh) (s d : Place) → unserved n w s d ≡ true → turns_west n s.column.0 ≡ false
unfolding unserved shut_in meets_edge
unserved-column n w s d e =
    elim (or_cases (shut_in (trip_on n w d) s.row.0 s.column.0) _ e) [
      | inl f ↦ not-true _ (and_parts (not (turns_west n s.column.0)) _ f).0
      | inr f ↦ not-true _ (and_parts (not (turns_west n s.column.0)) _ f).0
    ]

pub one-network-serves : (w : Mesh) (s d : Place) → unserved First w s d ≡ true → unserved Second w s d ≡ false
one-network-serves w s d e =
    elim (cases_Bool (unserved Second w s d)) [
      | inr f ↦ f
      | inl f ↦
          let permits : turns_west Second s.column.0 ≡ true = parity.networks-exchanged s.column.0 ∙ rw (unserved-column First w s d e) in
          true-false permits (unserved-column Second w s d f)
    ]

-- on a marked mesh, with the turns of a network
module _ (n : Network) (w : Mesh) (s d : Place) where
  -- a destination that refusals 6, 7 and 8 let pass gives a course
  pub destination-course : ObstaclesOf w → Placed w s d → block_near_in_row w d ≡ false → Course (trip_on n w d) (blocks w)
  unfolding in_block block_near_in_row
  destination-course o p far =
      record {
        obstacles = o;
        changes = turns-change n;
        row = on_row w d p.destination-on;
        column = on-column w d p.destination-on;
        clear = row-is-clear o d.row.0 d.column.0 p.destination-free far;
      }

  -- a source that refusals 6, 7 and 9 let pass
  pub source-served : Request n w s d → Served (trip_on n w d) s.row.0 s.column.0
  unfolding in_block unserved
  source-served q =
      let p = q.placed in
      let (free-west, off) = or_parts (shut_in (trip_on n w d) s.row.0 s.column.0) _ q.served in
      record {
        place = record { row = on_row w s p.source-on; column = on-column w s p.source-on; free = p.source_free };
        not-shut = free-west;
        off-edge = off;
      }

  -- the hops of a request that refusals 6 to 9 let pass are a lawful route within the bound
  pub request-arrives : ObstaclesOf w → Request n w s d →
      Arrives (trip_on n w d) (blocks w) s.row.0 s.column.0 (hops_of n w s d)
  unfolding hops_of
  request-arrives o q =
      walk-arrives (destination-course o q.placed q.row-clear) _ _ (source-served q) _ (omega arith)

  -- their bound on a mesh of at most 64 columns and rows
  pub request-bound : w.columns ≤ 64 → w.rows ≤ 64 → ObstaclesOf w → Request n w s d →
      bound (trip_on n w d) (blocks w) s.row.0 s.column.0 ≤ most_hops
  request-bound few-columns few-rows o q =
      bound-few (destination-course o q.placed q.row-clear) (source-served q).place few-columns few-rows

-- no route has more hops: on either network, of every map that refusals 1 to 5 let pass, and every request that refusals 6 to 9 let pass
pub routes-are-short : (n : Network) {columns rows : ℕ} {map : List ℕ} → Accepted columns rows map → (s d : Place) →
    Request n (marked (mesh columns rows map)) s d → length (hops_of n (marked (mesh columns rows map)) s d) ≤ most_hops
routes-are-short n {columns} {rows} {map} a s d q =
    let w = marked (mesh columns rows map) in
    let o = obstacles a in
    omega (arith, (request-arrives n w s d o q).hops, request-bound n w s d a.few-columns a.few-rows o q)
