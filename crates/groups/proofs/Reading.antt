-- Reading a number group by group, from the byte that stands at an index. Assumes nothing.
use Rattle.std.proofs.Common.{◌≡◌, ℕ, zero, suc, ◌+◌, ◌-◌, ◌*◌, ◌%◌, ◌≤◌, ◌<◌, List, [], ◌∷◌, length, get_or, drop, Result, Ok, Err, refl, sym, ◌∙◌, add-one, arith, drop-cons}
use borrow.Author.Tests.{lt-ltb, le-ltb}
use lib.ListN.{drop_of_length-le}
use Rattle.theory_legs.specs.declared.LegRefusal.{LegRefusal}
use Rattle.theory_legs.specs.declared.LegRefusal.TheVariants.{CutShort, BadNumber}
use Rattle.theory_legs.specs.Groups.{fault, found, and_then, above, read_groups, not_large, read_number}
use Rattle.theory_legs.proofs.Groups.{read-last, read_more, groups_room, groups-small, number_read}
use Rattle.groups.specs.Reading.{number_told, groups_from, number_from, Joined, Bounded}

-- A group before more

pub joined-needless : (g : ℕ) {more : ℕ × ℕ} → more.0 ≡ 0 → Joined g more (Err BadNumber)
unfolding number_told above
joined-needless g z = record { joined = λ ys. rw z }

pub joined-value : (g n next : ℕ) → (n ≡ 0 → ⊥) → Joined g (n, next) (Ok (g % 128 + n * 128, next))
unfolding number_told above
joined-value g zero next z = absurd (z refl)
joined-value g (suc n) next z = record { joined = λ ys. refl }

-- Not too large

pub bounded-large : {number : ℕ × ℕ} → 65535 < number.0 → Bounded number (Err BadNumber)
unfolding number_told not_large
bounded-large {number} h = record { bounded = λ ys. rw (lt-ltb 65535 number.0 h) }

pub bounded-value : {number : ℕ × ℕ} → number.0 ≤ 65535 → Bounded number (Ok number)
unfolding number_told not_large
bounded-value {number} h = record { bounded = λ ys. rw (le-ltb 65535 number.0 h) }

-- Group by group

pub groups_none : (ys : List ℕ) (at k : ℕ) → k ≡ 0 → number_told ys (Err BadNumber) ≡ groups_from k ys at
unfolding number_told groups_from read_groups
groups_none ys at k e = rw e

module _ (ys : List ℕ) (at : ℕ) where
  past : length ys ≤ at → drop at ys ≡ []
  past h = drop_of_length-le ys {i = at} h

  from_cut : (k : ℕ) → length ys ≤ at → groups_from (suc k) ys at ≡ fault 19
  unfolding groups_from read_groups
  from_cut k h = rw (past h)

  number-groups : number_from ys at ≡ and_then (groups_from 3 ys at) not_large
  unfolding number_from groups_from read_number
  number-groups = refl

  pub groups-cut : (k : ℕ) → (k ≡ 0 → ⊥) → length ys ≤ at → number_told ys (Err CutShort) ≡ groups_from k ys at
  unfolding number_told
  groups-cut zero z h = absurd (z refl)
  groups-cut (suc k) z h = sym (from_cut k h)

  pub number_cut : length ys ≤ at → number_told ys (Err CutShort) ≡ number_from ys at
  unfolding number_told and_then
  number_cut h = sym (number-groups ∙ rw (from_cut 2 h))

  -- the byte there
  module _ {g : ℕ} (e : g ≡ get_or ys at 0) (h : at < length ys) where
    here : drop at ys ≡ g ∷ drop (at + 1) ys
    here = rw (e, add-one) (drop-cons ys at 0 h)

    from_last : (k : ℕ) → g < 128 → groups_from (suc k) ys at ≡ found g (drop (at + 1) ys)
    unfolding groups_from
    from_last k l = rw here (read-last k g (drop (at + 1) ys) l)

    from_more : (k : ℕ) → 128 ≤ g → groups_from (suc k) ys at ≡ and_then (groups_from k ys (at + 1)) (above g)
    unfolding groups_from
    from_more k l = rw here (read_more k g (drop (at + 1) ys) l)

    pub groups-last : (k : ℕ) → (k ≡ 0 → ⊥) → g < 128 → number_told ys (Ok (g, at + 1)) ≡ groups_from k ys at
    unfolding number_told
    groups-last zero z l = absurd (z refl)
    groups-last (suc k) z l = sym (from_last k l)

    pub number-last : g < 128 → number_told ys (Ok (g, at + 1)) ≡ number_from ys at
    unfolding number_told and_then not_large
    number-last l = sym (number-groups ∙ rw (from_last 2 l, le-ltb 65535 g (omega arith)))

    module _ (m : 128 ≤ g) where
      pub groups-more : (more : ℕ × ℕ) (r : Result (ℕ × ℕ) LegRefusal) (k : ℕ) → (k ≡ 0 → ⊥) → Joined g more r →
          number_told ys (Ok more) ≡ groups_from (k - 1) ys (at + 1) → number_told ys r ≡ groups_from k ys at
      unfolding number_told and_then
      groups-more more r zero z j t = absurd (z refl)
      groups-more more r (suc k) z j t =
          let less : suc k - 1 ≡ k = omega arith in
          j.joined ys ∙ sym (from_more k m ∙ rw (← (rw less at t)))

      pub groups-fault : (why : LegRefusal) (k : ℕ) → (k ≡ 0 → ⊥) → number_told ys (Err why) ≡ groups_from (k - 1) ys (at + 1) →
          number_told ys (Err why) ≡ groups_from k ys at
      unfolding number_told and_then
      groups-fault why zero z t = absurd (z refl)
      groups-fault why (suc k) z t =
          let less : suc k - 1 ≡ k = omega arith in
          sym (from_more k m ∙ rw (← (rw less at t)))

-- all groups of a number: that it is not too large is asked last
pub number-fault : (ys : List ℕ) (at : ℕ) (why : LegRefusal) → number_told ys (Err why) ≡ groups_from 3 ys at → number_told ys (Err why) ≡ number_from ys at
unfolding number_told and_then
number-fault ys at why t = sym (number-groups ys at ∙ rw (← t))

pub number-all : (ys : List ℕ) (at : ℕ) (number : ℕ × ℕ) (r : Result (ℕ × ℕ) LegRefusal) → number_told ys (Ok number) ≡ groups_from 3 ys at →
    Bounded number r → number_told ys r ≡ number_from ys at
unfolding number_told and_then
number-all ys at number r t b = b.bounded ys ∙ sym (number-groups ys at ∙ rw (← t))

-- a number of two groups at most is few
pub groups-few : (ys : List ℕ) (at k : ℕ) (x : ℕ × ℕ) → k ≤ 2 → number_told ys (Ok x) ≡ groups_from k ys at → x.0 < 16384
unfolding number_told groups_from groups_room
groups-few ys at k x h t = small k h (groups-small k (drop at ys) (sym t))
  where
    small : (k : ℕ) → k ≤ 2 → x.0 < groups_room k → x.0 < 16384
    small zero h l = omega arith
    small (suc zero) h l = omega arith
    small (suc (suc zero)) h l = omega arith
    small (suc (suc (suc k))) h l = absurd (omega arith)

-- a number that is read is small
pub told-small : (ys : List ℕ) (at : ℕ) (x : ℕ × ℕ) → number_told ys (Ok x) ≡ number_from ys at → x.0 ≤ 65535
unfolding number_told number_from
told-small ys at x t = (number_read (drop at ys) (sym t)).small
