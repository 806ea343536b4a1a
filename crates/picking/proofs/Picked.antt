-- The cases of the pick: the map's refusals as they were told, or what is done on its marking; and that the part handed back is there.
-- Assumes nothing.
use Rattle.std.proofs.Common.{◌≡◌, sym, ◌∙◌, List, [], ℕ, ◌≤◌, length, take, drop, length-append, arith, Result, Ok, Err, MatchResult}
use Rattle.mesh.specs.declared.Network.{Network}
use Rattle.mesh.specs.declared.Network.TheVariants.{First, Second}
use Rattle.mesh.specs.declared.Place.{Place}
use Rattle.mesh.specs.declared.Refusal.{Refusal}
use Rattle.mesh.specs.Mesh.{Mesh, mesh}
use Rattle.mesh.specs.Headings.{letters}
use Rattle.mesh.specs.Numbers.{number, written}
use Rattle.mesh.specs.Tests.{first as first_of}
use Rattle.mesh.specs.Maps.{map_tests}
use Rattle.mesh.specs.Rounds.{marked}
use Rattle.mesh.specs.Routing.{hops_of, route_refusal, route_output}
use Rattle.mesh.proofs.Lists.{letters-length}
use Rattle.routing.proofs.Mapped.{map-refused, marked-routed}
use Rattle.theory_pick.specs.declared.Picked.{Picked}
use Rattle.theory_pick.specs.Picking.{pick_of, better, buffer_of, part, lent_number, PicksRoute, HandsBack}
use Rattle.theory_pick.proofs.Theorems.{outputs, picked-is-served}
use Rattle.picking.specs.Marked.{PicksOn}

module _ (columns rows : ℕ) (map : List ℕ) (s d : Place) (first second : List ℕ) where
  pub both-refused : (why : Refusal) → number why ≡ first_of (map_tests columns rows map) → PicksRoute columns rows map s d first second (Err why) first second
  unfolding better
  both-refused why told =
      let one = map-refused First columns rows map s d first why told in
      let two = map-refused Second columns rows map s d second why told in
      record { picks = rw (← one.answers, ← two.answers); writes = λ network. rw (← one.writes, ← two.writes) at (outputs columns rows map s d first second network) }

  pub marked-picked : {w : Mesh} → 0 ≡ first_of (map_tests columns rows map) → w ≡ marked (mesh columns rows map) → {r : Result Picked Refusal} {first' second' : List ℕ} →
      PicksOn w s d first second r first' second' → PicksRoute columns rows map s d first second r first' second'
  marked-picked clear is-w p =
      let one = marked-routed First columns rows map s d first clear is-w p.routes-first in
      let two = marked-routed Second columns rows map s d second clear is-w p.routes-second in
      record { picks = p.picks ∙ rw (one.answers, two.answers); writes = λ network. rw (one.writes, two.writes) (outputs columns rows map s d first second network) }

-- a served network's letters are in its buffer
within : (network : Network) (columns rows : ℕ) (map : List ℕ) (s d : Place) (out : List ℕ) → route_refusal network columns rows map s d out ≡ 0 →
    length (hops_of network (marked (mesh columns rows map)) s d) ≤ length (route_output network columns rows map s d out)
unfolding written
within network columns rows map s d out e =
    let hs = hops_of network (marked (mesh columns rows map)) s d in
    rw e (omega (arith, letters-length hs, length-append (letters hs) (drop (length (letters hs)) out)))

module _ {columns rows : ℕ} {map : List ℕ} {s d : Place} {first second : List ℕ} {r : Result Picked Refusal} {first' second' : List ℕ}
    (does : PicksRoute columns rows map s d first second r first' second') where
  -- the part that is handed back is there
  pub part-within : {p : Picked} {m : Network} → r ≡ Ok p → p.network ≡ m → p.hops ≤ length (buffer_of m first' second')
  part-within {p} {m} told e =
      let (served, is-n) = picked-is-served columns rows map s d first second m {n = p.hops} (sym does.picks ∙ rw (told, e)) in
      rw (is-n, does.writes m) (within m columns rows map s d _ served)

  -- and holds what is promised
  hands-back : {handed : List ℕ} {number : ℕ} → handed ≡ part (pick_of r) first' second' → number ≡ lent_number (pick_of r) →
      HandsBack columns rows map s d first second handed number
  hands-back h l =
      record { hands = h ∙ rw (does.picks, does.writes First, does.writes Second); lends = l ∙ rw does.picks }

  module _ {k : ℕ} (told : MatchResult r (λ _. k ≡ 0) (λ why. k ≡ number why)) where
    pub route-handed : {p : Picked} {m : Network} → r ≡ Ok p → p.network ≡ m → HandsBack columns rows map s d first second (take p.hops (buffer_of m first' second')) k
    unfolding part
    route-handed is-p e = let none = rw is-p at told in hands-back (rw (is-p, e)) (rw is-p none)

    pub none-handed : {why : Refusal} → r ≡ Err why → HandsBack columns rows map s d first second [] k
    unfolding part
    none-handed is-e = let some = rw is-e at told in hands-back (rw is-e) (rw is-e some)
