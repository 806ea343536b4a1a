-- What is shown of a pick between the routes of both networks. Assumes nothing.
use Rattle.std.proofs.Common.{Result, ◌≡◌, refl, ◌∙◌, ◌↔◌, ◌≢◌, inl, inr, List, [], ℕ, suc, ◌≤◌, ◌<◌, arith, length, take, drop, take_at, drop_at}
use Rattle.std.proofs.lemmas.Bool.{cases_Bool}
use Rattle.mesh.specs.declared.Refusal.{Refusal}
use Rattle.mesh.specs.declared.Heading.{Heading}
use Rattle.mesh.specs.declared.Network.{Network}
use Rattle.mesh.specs.declared.Network.TheVariants.{First, Second}
use Rattle.mesh.specs.declared.Place.{Place}
use Rattle.mesh.specs.Mesh.{Mesh, mesh}
use Rattle.mesh.specs.Headings.{letters}
use Rattle.mesh.specs.Numbers.{written}
use Rattle.mesh.specs.Rounds.{marked}
use Rattle.mesh.specs.Requests.{unserved}
use Rattle.mesh.specs.Routing.{route_refusal, route_output}
use Rattle.mesh.specs.Judging.{passed, judgement}
use Rattle.mesh.proofs.Lists.{letters-length}
use Rattle.theory_walk.specs.Claims.{most_hops}
use Rattle.theory_walk.proofs.Theorems.{one-network-serves}
use Rattle.theory_demands.specs.Demand3.{refusal1to8, request_refusal, hops}
use Rattle.theory_demands.proofs.Requests.{passed-9, nine-decides}
use Rattle.theory_demands.proofs.Routes.{room-none, served-clear}
use Rattle.theory_demands.proofs.Theorems.{routes-are-short, route-is-judged}
use Rattle.theory_pick.specs.declared.Picked.{Picked}
use Rattle.theory_pick.specs.Picking.{route, none, picked, buffer_of, part, PicksRoute, HandsBack}
use Rattle.theory_pick.proofs.Better.{first-better, second-better, neither-better, first-served, second-served}

module _ (columns rows : ℕ) (map : List ℕ) (s d : Place) where
  -- of Route on a network: its refusal with a buffer, or 0, and its hops
  abbrev pub refusal_on : Network → List ℕ → ℕ
  refusal_on network out = route_refusal network columns rows map s d out

  abbrev pub hops_on : Network → List Heading
  hops_on network = hops network columns rows map s d

  abbrev w : Mesh
  w = marked (mesh columns rows map)

  -- a served network's letters stand at the start of its buffer, and what lies after them is as it was
  stands : (network : Network) (out : List ℕ) → refusal_on network out ≡ 0 →
      (take (length (hops_on network)) (route_output network columns rows map s d out) ≡ letters (hops_on network)) ×
      (drop (length (hops_on network)) (route_output network columns rows map s d out) ≡ drop (length (hops_on network)) out)
  unfolding written
  stands network out e =
      let n = letters-length (hops_on network) in
      (rw e (take_at (letters (hops_on network)) _ _ n), rw e (drop_at (letters (hops_on network)) _ _ n ∙ rw n))

  module _ (first second : List ℕ) where
    -- the first network's route is picked exactly if it is served, and the second isn't, or is no shorter
    pub picks_first : picked columns rows map s d first second ≡ route First (length (hops_on First)) ↔
        ((refusal_on First first ≡ 0) × (refusal_on Second second ≡ 0 → length (hops_on First) ≤ length (hops_on Second)))
    picks_first = first-better (refusal_on First first) _ (refusal_on Second second) _

    -- the second's exactly if it is served, and the first isn't, or is longer
    pub picks_second : picked columns rows map s d first second ≡ route Second (length (hops_on Second)) ↔
        ((refusal_on Second second ≡ 0) × (refusal_on First first ≡ 0 → length (hops_on Second) < length (hops_on First)))
    picks_second = second-better (refusal_on First first) _ (refusal_on Second second) _

    -- none exactly if both refuse, with the first's refusal
    pub picks-none : {k : ℕ} → picked columns rows map s d first second ≡ none (suc k) ↔
        ((refusal_on First first ≡ suc k) × (refusal_on Second second ≢ 0))
    picks-none {k} = neither-better (refusal_on First first) _ (refusal_on Second second) _ k

    -- of both outputs, that of a network
    pub outputs : (network : Network) → buffer_of network (route_output First columns rows map s d first) (route_output Second columns rows map s d second) ≡
        route_output network columns rows map s d (buffer_of network first second)
    outputs First = refl
    outputs Second = refl

    -- what is picked is the route of a served network
    pub picked-is-served : (network : Network) {n : ℕ} → picked columns rows map s d first second ≡ route network n →
        (refusal_on network (buffer_of network first second) ≡ 0) × (n ≡ length (hops_on network))
    picked-is-served First e = first-served (refusal_on First first) _ (refusal_on Second second) _ e
    picked-is-served Second e = second-served (refusal_on First first) _ (refusal_on Second second) _ e

    -- Of the pick on both buffers, which keeps its promise, and either network:
    module _ {r : Result Picked Refusal} {first' second' : List ℕ} (does : PicksRoute columns rows map s d first second r first' second') (network : Network) where
      -- its route stands in its buffer, whichever is picked, and nothing after it is touched
      pub routes-stand : refusal_on network (buffer_of network first second) ≡ 0 →
          (take (length (hops_on network)) (buffer_of network first' second') ≡ letters (hops_on network)) ×
          (drop (length (hops_on network)) (buffer_of network first' second') ≡ drop (length (hops_on network)) (buffer_of network first second))
      routes-stand e = rw (does.writes network) (stands network _ e)

      -- where it is not served, its buffer is untouched
      pub unserved-untouched : {k : ℕ} → refusal_on network (buffer_of network first second) ≡ suc k →
          buffer_of network first' second' ≡ buffer_of network first second
      unfolding written
      unserved-untouched e = does.writes network ∙ rw e

    -- Of the pick that hands back a part, which keeps its promise:
    module _ {handed : List ℕ} {number : ℕ} (does : HandsBack columns rows map s d first second handed number) where
      -- where a route is picked, just its letters are handed back, and the lent number is 0
      pub route-handed : (network : Network) {n : ℕ} → picked columns rows map s d first second ≡ route network n →
          (handed ≡ letters (hops_on network)) × (n ≡ length (hops_on network)) × (number ≡ 0)
      unfolding part
      route-handed network e =
          let (served, is-n) = picked-is-served network e in
          (does.hands ∙ rw (e, is-n, outputs network) (stands network _ served).0, is-n, does.lends ∙ rw e)

      -- where none is, the empty part, and the lent number is the refusal
      pub none-handed : {k : ℕ} → picked columns rows map s d first second ≡ none k → (handed ≡ []) × (number ≡ k)
      unfolding part
      none-handed e = (does.hands ∙ rw e, does.lends ∙ rw e)

      -- judging passes what is handed back, on the network whose route it is
      pub handed-is-judged : (network : Network) {n : ℕ} → picked columns rows map s d first second ≡ route network n →
          judgement network columns rows map s d handed ≡ passed n
      handed-is-judged network e =
          let (letters-of, is-n, zero-lent) = route-handed network e in
          rw (letters-of, is-n) (route-is-judged network columns rows map s d (served-clear network columns rows map s d _ (picked-is-served network e).0))

    -- with room for 4,034 letters in either buffer a request that one of the networks serves is never refused
    pub room-for-pick : most_hops ≤ length first → most_hops ≤ length second → {k : ℕ} → picked columns rows map s d first second ≡ none (suc k) →
        (network : Network) → request_refusal network columns rows map s d ≢ 0
    room-for-pick one two {k} e network clear = by network clear
      where
        served : (network : Network) (out : List ℕ) → most_hops ≤ length out → request_refusal network columns rows map s d ≡ 0 → refusal_on network out ≡ 0
        served network out room clear =
            let short = routes-are-short network columns rows map s d clear in
            room-none (passed-9 columns rows map s d clear) out (omega (arith, short))

        by : (network : Network) → request_refusal network columns rows map s d ≡ 0 → ⊥
        by First clear = let z = served First first one clear in absurd (omega (arith, (picks-none.0 e).0))
        by Second clear = (picks-none.0 e).1 (served Second second two clear)

    -- and every request that refusals 1 to 8 let pass is served: no source is refused 9 on both networks
    pub pick-serves : most_hops ≤ length first → most_hops ≤ length second → refusal1to8 columns rows map s d ≡ 0 →
        {k : ℕ} → picked columns rows map s d first second ≢ none (suc k)
    pick-serves one two passes e =
        elim (cases_Bool (unserved First w s d)) [
          | inr f ↦ room-for-pick one two e First (nine-decides columns rows map s d First passes ∙ rw f)
          | inl f ↦ room-for-pick one two e Second (nine-decides columns rows map s d Second passes ∙ rw (one-network-serves w s d f))
        ]
