-- A send as if alone: with room for its letters a call of Route does the same whatever is free, so with room for all a table does too. Assumes nothing.
use Rattle.std.proofs.Common.{◌≡◌, refl, ap, ◌≢◌, List, [], ◌∷◌, map, ℕ, zero, suc, ◌*◌, ◌≤◌, arith, length, drop, length-append, length-drop}
use Rattle.std.proofs.Math.Decide.{dec_le}
use Rattle.mesh.specs.declared.Heading.{Heading}
use Rattle.mesh.specs.declared.Network.{Network}
use Rattle.mesh.specs.Headings.{letters}
use Rattle.mesh.specs.Routing.{route_refusal}
use Rattle.mesh.proofs.Lists.{letters-length}
use Rattle.theory_walk.specs.Claims.{most_hops}
use Rattle.theory_demands.specs.Demand3.{request_refusal, hops}
use Rattle.theory_demands.proofs.Requests.{Clear, passed-9}
use Rattle.theory_demands.proofs.Routes.{short-ten, room-none, refused-before}
use Rattle.theory_demands.proofs.Theorems.{routes-are-short}
use Rattle.theory_batch.specs.declared.Send.{Send}
use Rattle.theory_batch.specs.Batch.{unless_refused, call, route_call, calls, letters_of}
use Rattle.theory_batch.specs.Claims.{alone, needed}

module _ (network : Network) (columns rows : ℕ) (faults : List ℕ) where
  module _ (x : Send) where
    -- refusals 1 to 9, the hops, and what a call writes by its refusal
    abbrev request : ℕ
    request = request_refusal network columns rows faults x.source x.destination

    abbrev hs : List Heading
    hs = hops network columns rows faults x.source x.destination

    abbrev text : ℕ → List ℕ
    text k = unless_refused k (letters hs)

    module _ (free : List ℕ) where
      abbrev refusal : ℕ
      refusal = route_refusal network columns rows faults x.source x.destination free

      fits-same : (k : ℕ) → request ≡ k → length (text k) ≤ length free → refusal ≡ k
      unfolding unless_refused
      fits-same zero e h =
          let clear = passed-9 columns rows faults x.source x.destination e in
          room-none clear free (rw letters-length at h)
      fits-same (suc k) e h = refused-before network columns rows faults x.source x.destination free e

      not-ten-same : (k : ℕ) → request ≡ k → refusal ≢ 10 → refusal ≡ k
      not-ten-same zero e not-ten =
          let clear = passed-9 columns rows faults x.source x.destination e in
          by clear (dec_le (length hs) (length free))
        where
          by : Clear network columns rows faults x.source x.destination → Dec (length hs ≤ length free) → refusal ≡ 0
          by clear (yes h) = room-none clear free h
          by clear (no h) = absurd (not-ten (short-ten clear free (omega arith)))
      not-ten-same (suc k) e not-ten = refused-before network columns rows faults x.source x.destination free e

      -- where the letters fit, and where the call isn't refused 10
      fits-alone : length (alone network columns rows faults x).letters ≤ length free → route_call network columns rows faults x free ≡ alone network columns rows faults x
      unfolding alone route_call call
      fits-alone h = rw (fits-same request refl h)

      pub not-ten-alone : refusal ≢ 10 → route_call network columns rows faults x free ≡ alone network columns rows faults x
      unfolding alone route_call
      not-ten-alone h = rw (not-ten-same request refl h)

  pub calls_alone : (xs : List Send) (out : List ℕ) → needed network columns rows faults xs ≤ length out →
      calls (route_call network columns rows faults) xs out ≡ map (alone network columns rows faults) xs
  unfolding calls needed letters_of
  calls_alone [] out h = refl
  calls_alone (x ∷ xs) out h =
      let c = alone network columns rows faults x in
      let all = length-append c.letters (letters_of (map (alone network columns rows faults) xs)) in
      let one = fits-alone x out (omega (arith, all)) in
      rw one (ap (λ cs. c ∷ cs) (calls_alone xs (drop (length c.letters) out) (omega (arith, all, length-drop (length c.letters) out))))

  -- a route has at most so many letters
  alone-short : (x : Send) (k : ℕ) → request x ≡ k → length (text x k) ≤ most_hops
  unfolding unless_refused
  alone-short x zero e = rw letters-length (routes-are-short network columns rows faults x.source x.destination e)
  alone-short x (suc k) e = omega arith

  pub needed-most : (xs : List Send) → needed network columns rows faults xs ≤ most_hops * length xs
  unfolding needed letters_of alone call
  needed-most [] = omega arith
  needed-most (x ∷ xs) =
      let on = needed-most xs in
      omega (arith, alone-short x (request x) refl, length-append (text x (request x)) (letters_of (map (alone network columns rows faults) xs)))
