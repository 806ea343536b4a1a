-- Demand 3 of the hand-over sheet, and what goes with it. Assumes nothing.
use Rattle.std.proofs.Common.{Result, ◌≡◌, refl, ◌↔◌, true, List, ℕ, suc, ◌≤◌, arith, length}
use Rattle.mesh.specs.declared.Refusal.{Refusal}
use Rattle.mesh.specs.declared.Network.{Network}
use Rattle.mesh.specs.declared.Place.{Place}
use Rattle.mesh.specs.Mesh.{mesh}
use Rattle.mesh.specs.Headings.{letters}
use Rattle.mesh.specs.Hops.{fresh}
use Rattle.mesh.specs.Numbers.{Answer, returned}
use Rattle.mesh.specs.Rounds.{marked}
use Rattle.mesh.specs.Walk.{bound}
use Rattle.mesh.specs.Requests.{unserved}
use Rattle.mesh.specs.Routing.{routed_answer, Routes}
use Rattle.mesh.specs.Judging.{passed, judgement}
use Rattle.mesh.proofs.Maps.{accepted}
use Rattle.mesh.proofs.Requests.{request}
use Rattle.theory_judging.specs.Claims.{trip_to}
use Rattle.theory_judging.proofs.Theorems.{judgement-of-route}
use Rattle.theory_walk.specs.Claims.{most_hops, Fails, reached}
use Rattle.theory_walk.proofs.Theorems as walks
use Rattle.theory_demands.specs.Demand3.{Call, is_same, refusal1to8, request_refusal, hops, Demand3}
use Rattle.theory_demands.proofs.Requests.{passed-8, passed-9, course-of, free_source, judged-clear}
use Rattle.theory_demands.proofs.Routes.{route-given, refused-given}
use Rattle.theory_demands.proofs.Hops.{arrives, hops-by-rules, no-other-hops, way}
use Rattle.theory_demands.proofs.Calls.{is_same_lem, goes, answers-from}

module _ (network : Network) (columns rows : ℕ) (map : List ℕ) (s d : Place) where
  -- demand 3: of every route request on either network to which none of refusals 1 to 9 applies
  pub demand-3 : request_refusal network columns rows map s d ≡ 0 → Demand3 network columns rows map s d
  unfolding bound reached
  demand-3 none =
      let clear = passed-9 columns rows map s d none in
      record {
        by-rules = hops-by-rules clear;
        no-others = no-other-hops clear;
        lawfully = (arrives clear).route;
        on-the-way = λ k h. (way clear k h).place;
        bounded = (arrives clear).hops;
        routed = λ out r after does. route-given clear out does;
        moves = λ calls on. goes clear 0 (omega arith) refl on;
        answers = λ calls on. answers-from (goes clear 0 (omega arith) refl on);
      }

  -- no route has more than 4,034 hops: their number, beside refusals as 65,536 plus theirs, can't be taken for one
  pub routes-are-short : request_refusal network columns rows map s d ≡ 0 → length (hops network columns rows map s d) ≤ most_hops
  routes-are-short none =
      let clear = passed-9 columns rows map s d none in
      walks.routes-are-short network (accepted clear.passed.map-passes) s d (request (marked (mesh columns rows map)) s d clear.none)

  -- so with room for 4,034 letters Route serves every such request
  pub room-for-every-route : request_refusal network columns rows map s d ≡ 0 → (out : List ℕ) (r : Result ℕ Refusal) (after : List ℕ) → most_hops ≤ length out →
      Routes network columns rows map s d out r after → routed_answer r ≡ returned (length (hops network columns rows map s d))
  room-for-every-route none out r after room does =
      ((demand-3 none).routed out r after does).reports (omega (arith, routes-are-short none))

  -- the premise is about Route: where one of refusals 1 to 9 applies, Route answers the first that does and changes no byte, whatever its output holds
  pub else-refused : {k : ℕ} → request_refusal network columns rows map s d ≡ suc k → (out : List ℕ) (r : Result ℕ Refusal) (after : List ℕ) →
      Routes network columns rows map s d out r after → (routed_answer r ≡ Answer.refused (suc k)) × (after ≡ out)
  else-refused e out r after does = refused-given network columns rows map s d out e does

  -- judging passes every route
  pub route-is-judged : request_refusal network columns rows map s d ≡ 0 →
      judgement network columns rows map s d (letters (hops network columns rows map s d)) ≡ passed (length (hops network columns rows map s d))
  route-is-judged none =
      let clear = passed-9 columns rows map s d none in
      judgement-of-route network columns rows map s d (judged-clear clear.passed) (hops network columns rows map s d) (arrives clear).route

  -- refusal 9 comes to one condition: where none of refusals 1 to 8 applies, some hop by the rules is unlawful exactly if the condition holds
  pub refusal-9 : refusal1to8 columns rows map s d ≡ 0 →
      unserved network (marked (mesh columns rows map)) s d ≡ true ↔ Fails (trip_to network columns rows map d) (fresh s)
  unfolding unserved
  refusal-9 none =
      let p = passed-8 columns rows map s d none in
      walks.refusal-9 (course-of p network) s.row.0 s.column.0 (free_source p network)

-- the test of a call holds exactly if it was given the same mesh, map and network
pub same-given : (network : Network) (columns rows : ℕ) (map : List ℕ) (c : Call) →
    is_same network columns rows map c ≡ true ↔ ((c.network ≡ network) × (c.columns ≡ columns) × (c.rows ≡ rows) × (c.map ≡ map))
same-given = is_same_lem
