-- A whole list of calls of Move on, on a request's fresh packet. Assumes nothing.
use Rattle.std.proofs.Common.{◌≡◌, refl, ap, sym, ◌∙◌, true, false, List, [], ◌∷◌, ◌↔◌, inl, inr, ℕ, zero, suc, ◌≤◌, ◌<◌, arith, eqb-true, eq-eqb, eqb, length, get_or, drop, drop_of_length-le, drop-cons}
use Rattle.std.proofs.lemmas.Bool.{cases_Bool, and_parts}
use Rattle.std.proofs.Math.Decide.{dec_le}
use Rattle.mesh.specs.declared.Heading.{Heading}
use Rattle.mesh.specs.declared.Heading.TheVariants.{East as E}
use Rattle.mesh.specs.declared.Packet.{Packet}
use Rattle.mesh.specs.declared.Network.{Network}
use Rattle.mesh.specs.declared.Network.TheVariants.{First, Second}
use Rattle.mesh.specs.declared.Place.{Place}
use Rattle.mesh.specs.Headings.{letter, letters}
use Rattle.mesh.specs.Numbers.{network_number, same_network}
use Rattle.mesh.specs.Rules.{Trip}
use Rattle.mesh.specs.Hops.{At, moved, fresh}
use Rattle.mesh.specs.Walk.{hop_at}
use Rattle.mesh.specs.Moving.{hopped, there, moved_told, MovesOn}
use Rattle.mesh.proofs.Lists.{same-eq, same_refl}
use Rattle.mesh.proofs.Bools.{true-false}
use Rattle.theory_judging.specs.Claims.{trip_to}
use Rattle.theory_walk.specs.Claims.{reached, Hops}
use Rattle.theory_demands.specs.Demand3.{Call, Keeps, Refused, letters_then_arrived, is_same, Calls, no-calls, same, other, same_answers, hops, record_at, Goes, no_more, letter-next, arrived-now, refused-now}
use Rattle.theory_demands.proofs.Requests.{Clear}
use Rattle.theory_demands.proofs.Hops.{way}
use Rattle.theory_demands.proofs.Steps.{hopped-refused, there-refused, refused-still, hops-answer, hops-record, arrived-answer, arrived-record}

-- one hop more
reached-next : (t : Trip) (k : ℕ) (p : At) → reached (suc k) t p ≡ moved (hop_at t (reached k t p)) (reached k t p)
unfolding reached
reached-next t zero p = refl
reached-next t (suc k) p = reached-next t k (moved (hop_at t p) p)

letter-of : (hs : List Heading) (k : ℕ) (h : Heading) → k < length hs → get_or (letters hs) k 0 ≡ letter (get_or hs k h)
unfolding letters
letter-of [] k h i = absurd (omega arith)
letter-of (g ∷ hs) zero h i = refl
letter-of (g ∷ hs) (suc k) h i = letter-of hs k h (omega arith)

same-network : (m n : Network) → same_network m n ≡ true → m ≡ n
same-network First First e = refl
same-network First Second e = true-false e refl
same-network Second First e = true-false e refl
same-network Second Second e = refl

module _ (network : Network) (columns rows : ℕ) (map : List ℕ) where
  -- the test of a call holds exactly if it was given the same
  pub is_same_lem : (c : Call) → is_same network columns rows map c ≡ true ↔ ((c.network ≡ network) × (c.columns ≡ columns) × (c.rows ≡ rows) × (c.map ≡ map))
  unfolding is_same
  is_same_lem c = (
    λ e.
        let (o, d) = and_parts (same_network c.network network) _ e in
        let (p, f) = and_parts (eqb c.columns columns) _ d in
        let (q, g) = and_parts (eqb c.rows rows) _ f in
        (same-network _ _ o, eqb-true _ _ p, eqb-true _ _ q, same-eq _ _ g),
    λ e. rw (e.0, e.1, e.2, e.3, eq-eqb (network_number network) _ refl, eq-eqb columns columns refl, eq-eqb rows rows refl, same_refl map),
  )

  -- then it kept the promise for the same
  keeps_same : {p : Packet} {c : Call} → Keeps p c → is_same network columns rows map c ≡ true → MovesOn network columns rows map p c.answer c.after
  keeps_same {c = c} keeps e = let (h, i, j, k) = (is_same_lem c).0 e in rw (h, i, j, k) at keeps

module _ {network : Network} {columns rows : ℕ} {map : List ℕ} {s d : Place} (clear : Clear network columns rows map s d) where
  abbrev hs : List Heading
  hs = hops network columns rows map s d

  abbrev shown : ℕ → Packet
  shown = record_at network columns rows map s d

  abbrev reach : ℕ → At
  reach k = reached k (trip_to network columns rows map d) (fresh s)

  -- A call with the same mesh, map and network, when k letters have been returned.
  module _ (k : ℕ) {p : Packet} {c : Call} (stands : p ≡ shown k) (keeps : Keeps p c) (e : is_same network columns rows map c ≡ true) where
    kept : MovesOn network columns rows map (shown k) c.answer c.after
    kept = rw stands at (keeps_same network columns rows map keeps e)

    module _ (h : k < length hs) where
      here : Hops (trip_to network columns rows map d) (reach k) (get_or hs k E)
      here = (way clear k (omega arith)).hops E h

      letter-told : moved_told c.answer ≡ hopped (get_or (letters hs) k 0)
      letter-told = hops-answer network clear.passed (reach k) (way clear k (omega arith)).place kept here ∙ rw (letter-of hs k E h)

      moved_on : c.after ≡ shown (suc k)
      moved_on =
          hops-record network clear.passed (reach k) (way clear k (omega arith)).place kept here ∙ rw (here.by-rule, reached-next (trip_to network columns rows map d) k (fresh s))

    module _ (h : k ≡ length hs) where
      arrived-told : moved_told c.answer ≡ there
      arrived-told = let o = way clear k (omega arith) in arrived-answer network clear.passed (reach k) o.place kept (o.ends h)

      stays-there : c.after ≡ shown k
      stays-there = let o = way clear k (omega arith) in arrived-record network clear.passed (reach k) o.place kept (o.ends h)

  -- so it is not refused
  not-refused : (k : ℕ) {p : Packet} {c : Call} → k ≤ length hs → p ≡ shown k → Keeps p c → Refused c → is_same network columns rows map c ≡ false
  not-refused k {c = c} h stands keeps ref =
      elim (cases_Bool (is_same network columns rows map c)) [
        | inr f ↦ f
        | inl e ↦
            elim (dec_le (suc k) (length hs)) [
              | yes i ↦ hopped-refused (sym (letter-told k stands keeps e i) ∙ ref.1)
              | no i ↦ there-refused (sym (arrived-told k stands keeps e (omega arith)) ∙ ref.1)
            ]
      ]

  -- the calls when k letters have been returned
  pub goes : (k : ℕ) {p : Packet} {calls : List Call} → k ≤ length hs → p ≡ shown k → Calls network columns rows map p calls →
      Goes network columns rows map s d k calls
  goes k h stands no-calls = no_more
  goes k h stands (same keeps e calls) =
      elim (dec_le (suc k) (length hs)) [
        | yes i ↦
            let next = moved_on k stands keeps e i in
            letter-next e i (letter-told k stands keeps e i) next (goes (suc k) i next calls)
        | no i ↦
            let j : k ≡ length hs = omega arith in
            let left = stays-there k stands keeps e j in
            arrived-now e j (arrived-told k stands keeps e j) left (goes k h left calls)
      ]
  goes k h stands (other keeps ref calls) =
      let left = refused-still keeps ref.1 ∙ stands in
      refused-now (not-refused k h stands keeps ref) ref left (goes k h left calls)

-- the answers of those with the same mesh, map and network
pub answers-from : {network : Network} {columns rows : ℕ} {map : List ℕ} {s d : Place} {k : ℕ} {calls : List Call} → Goes network columns rows map s d k calls →
    same_answers network columns rows map calls ≡ letters_then_arrived (length (same_answers network columns rows map calls)) (drop k (hops network columns rows map s d))
unfolding same_answers letters_then_arrived
answers-from no_more = refl
answers-from {network} {columns} {rows} {map} {s} {d} (letter-next {k} e h t r rest) =
    let hs = hops network columns rows map s d in
    rw (e, t, drop-cons hs k E h, letter-of hs k E h) (ap (λ ts. hopped (letter (get_or hs k E)) ∷ ts) (answers-from rest))
answers-from {network} {columns} {rows} {map} {s} {d} (arrived-now {k} e h t r rest) =
    let ends = drop_of_length-le (hops network columns rows map s d) {i = k} (omega arith) in
    rw (e, t, ends) (ap (λ ts. there ∷ ts) (rw ends at (answers-from rest)))
answers-from (refused-now e ref r rest) = rw e (answers-from rest)
