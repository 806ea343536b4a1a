-- Demand 3 of the hand-over sheet, over the definitions that the promises of Route (`Routes`) and of Move on (`MovesOn`) cite. Assumes nothing.
use Rattle.std.specs.Prelude.{◌≡◌, ◌↔◌, Bool, true, false, cond, ◌&&◌, List, [], ◌∷◌, ◌++◌, ℕ, zero, suc, ◌+◌, ◌≤◌, ◌<◌, eqb, length, get_or, drop, Option, None, Result}
use Rattle.mesh.specs.declared.Refusal.{Refusal}
use Rattle.mesh.specs.declared.Heading.{Heading}
use Rattle.mesh.specs.declared.Network.{Network}
use Rattle.mesh.specs.declared.Place.{Place}
use Rattle.mesh.specs.declared.Packet.{Packet}
use Rattle.mesh.specs.Mesh.{mesh}
use Rattle.mesh.specs.Headings.{letter, letters}
use Rattle.mesh.specs.Tests.{first}
use Rattle.mesh.specs.Numbers.{same_network, Answer, returned}
use Rattle.mesh.specs.Rounds.{same_list, marked}
use Rattle.mesh.specs.Blocks.{blocks}
use Rattle.mesh.specs.Rules.{Trip}
use Rattle.mesh.specs.Hops.{At, fresh, moved, packet_at}
use Rattle.mesh.specs.Walk.{arrived, lawful_route, hop_at, walk, distance, detours, bound}
use Rattle.mesh.specs.Maps.{map_tests}
use Rattle.mesh.specs.Requests.{trip_tests, request_tests}
use Rattle.mesh.specs.Routing.{routed_answer, hops_of, Routes}
use Rattle.mesh.specs.Moving.{Told, hopped, there, moved_told, MovesOn}
use Rattle.theory_judging.specs.Claims.{trip_to}
use Rattle.theory_walk.specs.Course.{FreePlace}
use Rattle.theory_walk.specs.Claims.{reached}

-- hs are the hops by the rules from p, all of them until rule 1 applies
pub data ByRules (t : Trip) : At → List Heading → Type 0 where
  rule-1 : {p : At} → arrived t p ≡ true → ByRules t p []
  hop-on : {p : At} {hs : List Heading} → arrived t p ≡ false → ByRules t (moved (hop_at t p) p) hs → ByRules t p (hop_at t p ∷ hs)

-- a call of Move on: the network, mesh and map it was given, its answer, and the packet's record as it left it
pub record Call : Type 0 where
  pub network : Network
  pub columns : ℕ
  pub rows : ℕ
  pub map : List ℕ
  pub answer : Result (Option Heading) Refusal
  pub after : Packet

-- called on the record p, it kept Move on's promise
abbrev pub Keeps : Packet → Call → Type 0
Keeps p c = MovesOn c.network c.columns c.rows c.map p c.answer c.after

-- it was refused
abbrev pub Refused : Call → Type 0
Refused c = (k : ℕ) × (moved_told c.answer ≡ Told.refused k)

-- the answers that n calls get from the start of a route on: its letters in order, one each, then only "arrived"
unfoldable pub letters_then_arrived : ℕ → List Heading → List Told
letters_then_arrived zero hs = []
letters_then_arrived (suc n) [] = there ∷ letters_then_arrived n []
letters_then_arrived (suc n) (h ∷ hs) = hopped (letter h) ∷ letters_then_arrived n hs

-- the first of refusals 1 to 8 that applies to a request, or 0
unfoldable pub refusal1to8 : ℕ → ℕ → List ℕ → Place → Place → ℕ
refusal1to8 columns rows map s d = first (map_tests columns rows map ++ trip_tests (marked (mesh columns rows map)) s d)

module _ (network : Network) (columns rows : ℕ) (map : List ℕ) where
  -- the call was given the same mesh and map, the network included
  unfoldable pub is_same : Call → Bool
  is_same c = same_network c.network network && (eqb c.columns columns && (eqb c.rows rows && same_list c.map map))

  -- Calls on the record p, in turn. Each gets the record as the last one left it, keeps Move on's promise,
  -- and was given the same mesh, map and network, or else anything with which it was refused.
  pub data Calls : Packet → List Call → Type 0 where
    no-calls : {p : Packet} → Calls p []
    same : {p : Packet} {c : Call} {rest : List Call} → Keeps p c → is_same c ≡ true → Calls c.after rest → Calls p (c ∷ rest)
    other : {p : Packet} {c : Call} {rest : List Call} → Keeps p c → Refused c → Calls c.after rest → Calls p (c ∷ rest)

  -- the answers of those with the same mesh, map and network
  unfoldable pub same_answers : List Call → List Told
  same_answers [] = []
  same_answers (c ∷ calls) = let rest = same_answers calls in cond (is_same c) (moved_told c.answer ∷ rest) rest

  -- a route request: source s, destination d
  module _ (s d : Place) where
    -- the first of refusals 1 to 9 that applies to it, or 0; 9 by the condition that it comes to
    unfoldable pub request_refusal : ℕ
    request_refusal = first (map_tests columns rows map ++ request_tests network (marked (mesh columns rows map)) s d)

    -- its hops
    abbrev pub hops : List Heading
    hops = hops_of network (marked (mesh columns rows map)) s d

    -- its fresh packet
    abbrev pub fresh_packet : Packet
    fresh_packet = record { place = s; last = None; destination = d }

    -- the record that shows the place and last hop reached by k of its hops, and the same destination
    abbrev pub record_at : ℕ → Packet
    record_at k = packet_at (reached k (trip_to network columns rows map d) (fresh s)) d

    -- What Route does with an output: it answers 10 exactly if there is room for fewer, and then changes no byte;
    -- else it writes exactly their letters in order, leaves the bytes after them, and reports exactly their number.
    pub record RouteGiven (out : List ℕ) (r : Result ℕ Refusal) (after : List ℕ) : Type 0 where
      pub ten : routed_answer r ≡ Answer.refused 10 ↔ length out < length hops
      pub unchanged : length out < length hops → after ≡ out
      pub reports : length hops ≤ length out → routed_answer r ≡ returned (length hops)
      pub writes : length hops ≤ length out → after ≡ letters hops ++ drop (length hops) out

    -- How calls go on when k letters have been returned so far. With the same mesh, map and network: letter number k, counted from 0, and the
    -- record shows one hop more; when all have been returned, "arrived". With another mesh, map or network: refused. In these two the record
    -- stays as it is.
    pub data Goes : ℕ → List Call → Type 0 where
      no_more : {k : ℕ} → Goes k []
      letter-next : {k : ℕ} {c : Call} {rest : List Call} →
          is_same c ≡ true → k < length hops → moved_told c.answer ≡ hopped (get_or (letters hops) k 0) → c.after ≡ record_at (suc k) →
          Goes (suc k) rest → Goes k (c ∷ rest)
      arrived-now : {k : ℕ} {c : Call} {rest : List Call} →
          is_same c ≡ true → k ≡ length hops → moved_told c.answer ≡ there → c.after ≡ record_at k →
          Goes k rest → Goes k (c ∷ rest)
      refused-now : {k : ℕ} {c : Call} {rest : List Call} →
          is_same c ≡ false → Refused c → c.after ≡ record_at k →
          Goes k rest → Goes k (c ∷ rest)

    -- What demand 3 says of the request.
    pub record Demand3 : Type 0 where
      -- its hops are those of the hop rules, until rule 1 applies
      pub by-rules : ByRules (trip_to network columns rows map d) (fresh s) hops
      -- and no others, whatever number above the bound is looked at
      pub no-others : (n : ℕ) → bound (trip_to network columns rows map d) (blocks (marked (mesh columns rows map))) s.row.0 s.column.0 < n →
          walk n (trip_to network columns rows map d) (fresh s) ≡ hops
      -- each stays on the mesh, enters no block, is no reversal and no forbidden turn; the last one ends at the destination
      pub lawfully : lawful_route (trip_to network columns rows map d) (fresh s) hops ≡ true
      -- after k of them the packet is on the mesh and in no block
      pub on-the-way : (k : ℕ) → k ≤ length hops → FreePlace (trip_to network columns rows map d) (record_at k).place.row.0 (record_at k).place.column.0
      -- their number is at most the row distance plus the column distance, plus 2, plus twice (width + height + 1) summed over all blocks
      pub bounded : length hops ≤
          distance s.row.0 d.row.0 + distance s.column.0 d.column.0 + 2 + detours (blocks (marked (mesh columns rows map)))
      -- Route, whatever its output holds
      pub routed : (out : List ℕ) (r : Result ℕ Refusal) (after : List ℕ) → Routes network columns rows map s d out r after → RouteGiven out r after
      -- Move on: every list of calls on the fresh packet
      pub moves : (calls : List Call) → Calls fresh_packet calls → Goes 0 calls
      -- so those with the same mesh, map and network return the letters from the first on, one each, then only "arrived"
      pub answers : (calls : List Call) → Calls fresh_packet calls → same_answers calls ≡ letters_then_arrived (length (same_answers calls)) hops
