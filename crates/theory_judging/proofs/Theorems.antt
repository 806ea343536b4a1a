-- What is shown of judging a hand-in. Each theorem is proved in the file that its proof cites. Assumes nothing.
use Rattle.std.proofs.Common.{Option, Some, None, ◌≡◌, sym, ◌∙◌, ◌↔◌, Bool, true, List, ℕ, suc, ◌+◌, zero-add, arith, length}
use mathlib.Core.Logic.Iff
use Rattle.mesh.specs.declared.TurnRule.{TurnRule}
use Rattle.mesh.specs.declared.TurnRule.TheVariants.{Rule1, Rule2}
use Rattle.mesh.specs.declared.Heading.{Heading}
use Rattle.mesh.specs.declared.Network.{Network}
use Rattle.mesh.specs.declared.Place.{Place}
use Rattle.mesh.specs.Headings.{letter, letters, named}
use Rattle.mesh.specs.Turns.{hop_breaks, turns_back}
use Rattle.mesh.specs.Rules.{Trip}
use Rattle.mesh.specs.Hops.{At, fresh, lawful}
use Rattle.mesh.specs.Walk.{arrived, lawful_route}
use Rattle.mesh.specs.Judging.{letter_mistake, passed, failed, judge, judgement}
use Rattle.mesh.proofs.Headings.{letter-named, named-hop}
use Rattle.theory_judging.specs.Claims.{LawfulHandIn, lawful_hops, after, BreaksRule, FailedAt, BrokeRuleAt, refusal_of, trip_to}
use Rattle.theory_judging.proofs.Letters.{no-mistake-lawful}
use Rattle.theory_judging.proofs.Judged.{route-hops, hops-route, route-passed, passed-lawful, failed-told, told-failed, clear-judged, refused-judged, passed-clear, failed-judged}
use Rattle.theory_judging.proofs.Rules.{rule-is, broken-is-rule, reversal-keeps, failed-is-rule}

-- a heading's letter names it
pub named-letter : (h : Heading) → named (letter h) ≡ Some h
named-letter = letter-named

-- and no other byte does
pub only-letter-named : (x : ℕ) (h : Heading) → named x ≡ Some h → x ≡ letter h
only-letter-named = named-hop

-- Of the turn rules: any hop in column c after the last one, l.
module _ (west : ℕ → Bool) (c : ℕ) (l : Option Heading) (h : Heading) where
  -- it breaks rule 1 exactly if it makes an EN or NW turn where that is forbidden
  pub rule-1-is-broken : hop_breaks west c l h ≡ (Some Rule1) ↔ BreaksRule west c (Some Rule1) l h
  rule-1-is-broken = broken-is-rule west c (Some Rule1) (omega arith) l h

  -- and rule 2 exactly if it makes an ES or SW turn where that is
  pub rule-2-is-broken : hop_breaks west c l h ≡ (Some Rule2) ↔ BreaksRule west c (Some Rule2) l h
  rule-2-is-broken = broken-is-rule west c (Some Rule2) (omega arith) l h

  -- it breaks one rule at most
  pub one-rule-at-most : (r s : Option TurnRule) → BreaksRule west c r l h → BreaksRule west c s l h → r ≡ s
  one-rule-at-most r s a b = sym (rule-is west c a) ∙ rule-is west c b

  -- and none if it reverses
  pub reversal-breaks-none : turns_back l h ≡ true → hop_breaks west c l h ≡ None
  reversal-breaks-none = reversal-keeps west c l h

-- Of any mesh with its bad nodes, either parity, and any packet p on it.
module _ (t : Trip) (p : At) where
  -- a letter has no mistake exactly if its hop is lawful
  pub letter-lawful : (h : Heading) → letter_mistake t p (Some h) ≡ 0 ↔ lawful t p h ≡ true
  letter-lawful = no-mistake-lawful t p

  -- a route is lawful exactly if its hops are, and they end at the destination
  pub route-is-lawful : (hs : List Heading) → lawful_route t p hs ≡ true ↔ ((lawful_hops t p hs ≡ true) × (arrived t (after hs p) ≡ true))
  route-is-lawful hs = (route-hops t p hs, λ (e, there). hops-route t p hs e there)

  -- a hand-in is passed exactly if it spells a lawful route; the number is then its length, counted from i
  pub passed-is-lawful : (i n : ℕ) (xs : List ℕ) → judge t p i xs ≡ passed n ↔ (LawfulHandIn t p xs × (n ≡ i + length xs))
  passed-is-lawful = passed-lawful t p

  -- it fails at index j with number k exactly if the letters before j are lawful hops in turn, and after them k is wrong:
  -- the letter of index j is no lawful hop and k is its mistake, or there is none, the packet is not at the destination and k is 16
  pub failed-at : (i : ℕ) (xs : List ℕ) (k j : ℕ) → judge t p i xs ≡ failed k j ↔ FailedAt t p i xs k j
  failed-at i xs k j = (failed-told t p i xs, told-failed t p i xs)

  -- with 14 exactly if the letters before j are lawful hops in turn, and that of index j stays on the mesh and breaks rule 1: it makes an EN
  -- or NW turn where that is forbidden
  pub failed-with-14 : (i : ℕ) (xs : List ℕ) (j : ℕ) → judge t p i xs ≡ failed 14 j ↔ BrokeRuleAt t p i xs (Some Rule1) j
  failed-with-14 i xs j = Iff.trans (failed-at i xs 14 j) (failed-is-rule t p i xs j (Some Rule1) (omega arith))

  -- with 17 exactly if it breaks rule 2 instead: an ES or SW turn
  pub failed-with-17 : (i : ℕ) (xs : List ℕ) (j : ℕ) → judge t p i xs ≡ failed 17 j ↔ BrokeRuleAt t p i xs (Some Rule2) j
  failed-with-17 i xs j = Iff.trans (failed-at i xs 17 j) (failed-is-rule t p i xs j (Some Rule2) (omega arith))

  -- every lawful route is passed, with its number of hops
  pub route-is-passed : (hs : List Heading) → lawful_route t p hs ≡ true → judge t p 0 (letters hs) ≡ passed (length hs)
  route-is-passed hs e = route-passed t p 0 hs e ∙ rw zero-add

-- Of the operation, on either network.
module _ (network : Network) (columns rows : ℕ) (map : List ℕ) (s d : Place) where
  -- the first of refusals 1 to 7 that applies is the answer, with index 0
  pub refused-is-told : (xs : List ℕ) (k : ℕ) → refusal_of columns rows map s d ≡ suc k → judgement network columns rows map s d xs ≡ failed (suc k) 0
  refused-is-told xs k = refused-judged network columns rows map s d xs

  -- where a hand-in is passed, none applies
  pub passed-is-clear : (xs : List ℕ) (n : ℕ) → judgement network columns rows map s d xs ≡ passed n → refusal_of columns rows map s d ≡ 0
  passed-is-clear xs n = passed-clear network columns rows map s d xs

  -- Where none applies:
  module _ (clear : refusal_of columns rows map s d ≡ 0) where
    -- passed exactly if the hand-in spells a lawful route from source to destination on the marked mesh, with its length
    pub judgement-is-lawful : (xs : List ℕ) (n : ℕ) →
        judgement network columns rows map s d xs ≡ passed n ↔ (LawfulHandIn (trip_to network columns rows map d) (fresh s) xs × (n ≡ length xs))
    judgement-is-lawful xs n =
        rw (clear-judged network columns rows map s d xs clear, ← zero-add (length xs))
        (passed-is-lawful (trip_to network columns rows map d) (fresh s) 0 n xs)

    -- else failed, at the first letter that is no lawful hop, or at the end
    pub judgement-failed-at : (xs : List ℕ) (k j : ℕ) →
        judgement network columns rows map s d xs ≡ failed k j ↔ FailedAt (trip_to network columns rows map d) (fresh s) 0 xs k j
    judgement-failed-at xs k j =
        rw (clear-judged network columns rows map s d xs clear) (failed-at (trip_to network columns rows map d) (fresh s) 0 xs k j)

    -- every lawful route is passed, with its number of hops
    pub judgement-of-route : (hs : List Heading) → lawful_route (trip_to network columns rows map d) (fresh s) hs ≡ true →
        judgement network columns rows map s d (letters hs) ≡ passed (length hs)
    judgement-of-route hs e =
        let t = trip_to network columns rows map d in
        let own : judge t (fresh s) 0 (letters hs) ≡ passed (length hs) = route-passed t (fresh s) 0 hs e ∙ rw zero-add in
        clear-judged network columns rows map s d (letters hs) clear ∙ own

  -- A hand-in fails with 14 at index j exactly if no refusal applies, the letters before j are lawful, and letter j makes an EN or NW turn where
  -- that is forbidden, without leaving the mesh (which is told first, by 12);
  pub judgement-with-14 : (xs : List ℕ) (j : ℕ) →
      judgement network columns rows map s d xs ≡ failed 14 j ↔ ((refusal_of columns rows map s d ≡ 0) × BrokeRuleAt (trip_to network columns rows map d) (fresh s) 0 xs (Some Rule1) j)
  judgement-with-14 xs j =
      Iff.trans (failed-judged network columns rows map s d xs (omega arith))
      (Iff.and Iff.rfl (failed-is-rule (trip_to network columns rows map d) (fresh s) 0 xs j (Some Rule1) (omega arith)))

  -- with 17 exactly if an ES or SW turn.
  pub judgement-with-17 : (xs : List ℕ) (j : ℕ) →
      judgement network columns rows map s d xs ≡ failed 17 j ↔ ((refusal_of columns rows map s d ≡ 0) × BrokeRuleAt (trip_to network columns rows map d) (fresh s) 0 xs (Some Rule2) j)
  judgement-with-17 xs j =
      Iff.trans (failed-judged network columns rows map s d xs (omega arith))
      (Iff.and Iff.rfl (failed-is-rule (trip_to network columns rows map d) (fresh s) 0 xs j (Some Rule2) (omega arith)))
