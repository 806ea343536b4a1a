-- What Route answers and writes, by whether one of refusals 1 to 9 applies to the request. Assumes nothing.
use Rattle.std.proofs.Common.{Result, ◌≡◌, refl, sym, ◌∙◌, cond, List, ◌++◌, append_assoc, ℕ, zero, suc, ◌≤◌, ◌<◌, arith, lt-ltb, le-ltb, ltb, length, drop}
use Rattle.std.proofs.Math.Decide.{dec_le}
use Rattle.mesh.specs.declared.Refusal.{Refusal}
use Rattle.mesh.specs.declared.Heading.{Heading}
use Rattle.mesh.specs.declared.Network.{Network}
use Rattle.mesh.specs.declared.Place.{Place}
use Rattle.mesh.specs.Mesh.{mesh}
use Rattle.mesh.specs.Headings.{letters}
use Rattle.mesh.specs.Numbers.{Answer, returned, answer, written}
use Rattle.mesh.specs.Rounds.{marked}
use Rattle.mesh.specs.Tests.{first}
use Rattle.mesh.specs.Maps.{map_tests}
use Rattle.mesh.specs.Requests.{request_tests}
use Rattle.mesh.specs.Routing.{routed_answer, send_tests, route_refusal, Routes}
use Rattle.mesh.proofs.Tests.{first_some, clear_next}
use Rattle.mesh.proofs.Maps.{map-numbered}
use Rattle.mesh.proofs.Requests.{request-numbered}
use Rattle.mesh.proofs.Lists.{letters-length}
use Rattle.theory_demands.specs.Demand3.{hops, request_refusal, RouteGiven}
use Rattle.theory_demands.proofs.Requests.{Clear}

returned-refused {ℓ} : {A : Type ℓ} {n k : ℕ} → returned n ≡ Answer.refused k → A
returned-refused e = let z : ◌≡◌ {A = ℕ} 0 1 = cc in absurd (omega arith)

-- None applies: 10 does exactly if there is room for fewer.
module _ {network : Network} {columns rows : ℕ} {map : List ℕ} {s d : Place} (clear : Clear network columns rows map s d) (out : List ℕ) where
  abbrev hs : List Heading
  hs = hops network columns rows map s d

  only-room : route_refusal network columns rows map s d out ≡ cond (ltb (length out) (length hs)) 10 0
  unfolding route_refusal send_tests first
  only-room =
      clear_next (map_tests columns rows map) _ (map-numbered columns rows map) clear.passed.map-passes ∙
      clear_next (request_tests network (marked (mesh columns rows map)) s d) _ (request-numbered _ s d network) clear.none

  pub short-ten : length out < length hs → route_refusal network columns rows map s d out ≡ 10
  short-ten h = only-room ∙ rw (lt-ltb _ _ h)

  pub room-none : length hs ≤ length out → route_refusal network columns rows map s d out ≡ 0
  room-none h = only-room ∙ rw (le-ltb _ _ h)

  module _ {r : Result ℕ Refusal} {after : List ℕ} (does : Routes network columns rows map s d out r after) where
    answers-ten : length out < length hs → routed_answer r ≡ Answer.refused 10
    unfolding answer
    answers-ten h = does.answers ∙ rw (short-ten h)

    answers_number : length hs ≤ length out → routed_answer r ≡ returned (length hs)
    unfolding answer
    answers_number h = does.answers ∙ rw (room-none h)

    leaves-output : length out < length hs → after ≡ out
    unfolding written
    leaves-output h = does.writes ∙ rw (short-ten h)

    writes-letters : length hs ≤ length out → after ≡ letters hs ++ drop (length hs) out
    unfolding written
    writes-letters h = does.writes ∙ rw (room-none h, letters-length)

    ten-short : Dec (length hs ≤ length out) → routed_answer r ≡ Answer.refused 10 → length out < length hs
    ten-short (yes h) e = returned-refused (sym (answers_number h) ∙ e)
    ten-short (no h) e = omega arith

    pub route-given : RouteGiven network columns rows map s d out r after
    route-given = record {
      ten = (ten-short (dec_le _ _), answers-ten);
      unchanged = leaves-output;
      reports = answers_number;
      writes = writes-letters;
    }

-- One applies: it stands before 10.

module _ (network : Network) (columns rows : ℕ) (map : List ℕ) (s d : Place) (out : List ℕ) {k : ℕ} (e : request_refusal network columns rows map s d ≡ suc k) where
  pub refused-before : route_refusal network columns rows map s d out ≡ suc k
  unfolding request_refusal route_refusal send_tests
  refused-before = rw (← append_assoc) (first_some k (map_tests columns rows map ++ request_tests network (marked (mesh columns rows map)) s d) _ e)

  pub refused-given : {r : Result ℕ Refusal} {after : List ℕ} → Routes network columns rows map s d out r after →
      (routed_answer r ≡ Answer.refused (suc k)) × (after ≡ out)
  unfolding answer written
  refused-given does = (does.answers ∙ rw refused-before, does.writes ∙ rw refused-before)

-- so a request that Route serves with some output is one that none applies to
pub served-clear : (network : Network) (columns rows : ℕ) (map : List ℕ) (s d : Place) (out : List ℕ) → route_refusal network columns rows map s d out ≡ 0 →
    request_refusal network columns rows map s d ≡ 0
served-clear network columns rows map s d out h = by (request_refusal network columns rows map s d) refl
  where
    by : (k : ℕ) → request_refusal network columns rows map s d ≡ k → k ≡ 0
    by zero e = refl
    by (suc k) e = let f = refused-before network columns rows map s d out e in absurd (omega arith)
