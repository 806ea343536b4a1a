-- The letters of a file counted leg by leg. Assumes nothing.
use Rattle.std.proofs.Common.{◌≡◌, ◌≢◌, ℕ, suc, ◌+◌, ◌-◌, ◌*◌, ◌/◌, ◌%◌, ◌≤◌, ◌<◌, true, false, List, [], length, drop, replicate, Option, Some, None, Ok, Err, refl, ap, sym, ◌∙◌, arith, add-zero, length-append, drop-cons}
use mathlib.Core.Logic.{inl, inr}
use native.Mathlib.Nat.{add_assoc, mod-lt}
use lib.ListN.{length-replicate, drop_of_length-le}
use Rattle.mesh.specs.Headings.{same, last_is, code, direction}
use Rattle.mesh.proofs.Bools.{value}
use Rattle.mesh.proofs.Headings.{same-heading, same_self, code-of-direction}
use Rattle.groups.specs.Reading.{number_told, number_from}
use Rattle.groups.proofs.Reading.{told-small}
use Rattle.theory_legs.specs.declared.LegRefusal.{LegRefusal}
use Rattle.theory_legs.specs.declared.LegRefusal.TheVariants.{SameDirection, LeftOver}
use Rattle.theory_legs.specs.Groups.{Found, fault, found, and_then, read_number}
use Rattle.theory_legs.specs.Legs.{Leg, hops}
use Rattle.theory_legs.specs.Files.{leg_of, leg_before, read_legs, all_read, read_file}
use Rattle.theory_legs.proofs.Files.{leg-unread, leg-repeats, leg-differs}
use Rattle.to_letters.specs.Counted.{last_coded, legs_after, sizes, CountsLegs, CountsFile}

-- The forerunner's direction by its code

repeats-code : (k : ℕ) (before : Option ℕ) → before ≡ Some k → last_is (last_coded before) (direction k) ≡ true
unfolding last_is last_coded
repeats-code k before e = rw (e, same_self (direction k))

-- the forerunner's code is that of a direction
pub data FewCode : Option ℕ → Type 0 where
  no_code : FewCode None
  few_code : {k : ℕ} → k < 4 → FewCode (Some k)

differs-code : (k : ℕ) (before : Option ℕ) → k < 4 → FewCode before → before ≢ Some k → last_is (last_coded before) (direction k) ≡ false
unfolding last_is last_coded
differs-code k None h no_code d = refl
differs-code k (Some j) h (few_code l) d =
    elim (value (same (direction j) (direction k))) [
      | inl s ↦
          let one_way = ap code (same-heading (direction j) (direction k) s) in
          let same_code : j ≡ k = sym (code-of-direction j l) ∙ one_way ∙ code-of-direction k h in
          absurd (d (ap Some same_code))
      | inr s ↦ s
    ]

-- Letters added up

-- with so many letters before
unfoldable pub added : ℕ → Found ℕ → Found ℕ
added t (fault k) = fault k
added t (found n rest) = found (t + n) rest

sizes-before : (l : Leg) (x : Found (List Leg)) → sizes (leg_before l x) ≡ added l.length (sizes x)
unfolding sizes leg_before added hops
sizes-before l (fault k) = refl
sizes-before l (found ls rest) =
    rw (length-append (replicate l.length l.heading) (hops ls), length-replicate l.length l.heading)

added-added : (s t : ℕ) (x : Found ℕ) → added s (added t x) ≡ added (s + t) x
unfolding added
added-added s t (fault k) = refl
added-added s t (found n rest) = rw (add_assoc s t n)

added_none : (x : Found ℕ) → added 0 x ≡ x
unfolding added
added_none (fault k) = refl
added_none (found n rest) = let e : 0 + n ≡ n = omega arith in rw e

-- some legs are counted, left of them are not
pub record Counting (ys : List ℕ) (first legs at total : ℕ) (before : Option ℕ) (left : ℕ) : Type 0 where
  pub reads : added total (sizes (legs_after ys at left (last_coded before))) ≡ sizes (legs_after ys first legs None)
  pub few : total ≤ 16384 * (legs - left)
  pub coded : FewCode before
  pub within : left ≤ legs
  pub small : legs ≤ 65535

pub counting-none : (ys : List ℕ) (first legs : ℕ) → legs ≤ 65535 → Counting ys first legs first 0 None legs
unfolding last_coded
counting-none ys first legs h =
    record {
      reads = added_none (sizes (legs_after ys first legs None));
      few = omega arith;
      coded = no_code;
      within = omega arith;
      small = h;
    }

module _ {ys : List ℕ} {first legs at total : ℕ} {before : Option ℕ} {left : ℕ} (c : Counting ys first legs at total before left) where
  pub counting-all : left ≡ 0 → CountsLegs ys first legs (Ok (total, at))
  unfolding number_told legs_after read_legs sizes hops added
  counting-all e = let r = rw e at c.reads in record { told = rw add-zero at r }

  module _ (more : 0 < left) where
    next-fault : {f : ℕ} → read_legs (suc (left - 1)) (last_coded before) (drop at ys) ≡ fault f → fault f ≡ sizes (legs_after ys first legs None)
    unfolding legs_after sizes added
    next-fault e =
        let one : left ≡ suc (left - 1) = omega arith in
        rw e at (rw one at c.reads)

    pub counting-fault : {why : LegRefusal} → number_told ys (Err why) ≡ number_from ys at → CountsLegs ys first legs (Err why)
    unfolding number_told number_from
    counting-fault t = record { told = next-fault (leg-unread (left - 1) (last_coded before) (drop at ys) (sym t)) }

    module _ (n next : ℕ) (t : number_told ys (Ok (n, next)) ≡ number_from ys at) where
      number_read : read_number (drop at ys) ≡ found n (drop next ys)
      unfolding number_told number_from
      number_read = sym t

      pub counting-repeats : before ≡ Some (n % 4) → CountsLegs ys first legs (Err SameDirection)
      unfolding number_told leg_of
      counting-repeats f =
          let repeats = repeats-code (n % 4) before f in
          record { told = next-fault (leg-repeats (left - 1) (last_coded before) (drop at ys) number_read repeats) }

      pub number-few : n ≤ 65535
      number-few = told-small ys at (n, next) t

      pub counting_more : {left' : ℕ} → left' ≡ left - 1 → before ≢ Some (n % 4) → Counting ys first legs next (total + (n / 4 + 1)) (Some (n % 4)) left'
      unfolding last_coded legs_after leg_of
      counting_more g f =
          let one : left ≡ suc (left - 1) = omega arith in
          let way : n % 4 < 4 = mod-lt n (omega arith) in
          let small = number-few in
          let leg-read = leg-differs (left - 1) (last_coded before) (drop at ys) number_read (differs-code (n % 4) before way c.coded f) in
          let others = read_legs (left - 1) (Some (direction (n % 4))) (drop next ys) in
          let r = rw (leg-read, sizes-before (leg_of n) others, added-added total (n / 4 + 1) (sizes others)) at (rw one at c.reads) in
          record {
            reads = rw g r;
            few = omega (arith, c.few, c.within);
            coded = few_code way;
            within = omega (arith, c.within);
            small = c.small;
          }

-- The whole file

sizes-fault : (x : Found (List Leg)) {k : ℕ} → fault k ≡ sizes x → x ≡ fault k
unfolding sizes
sizes-fault (fault j) e = cc
sizes-fault (found ls rest) e = cc

-- what was found has that many letters, and the rest is the same
record Sized (x : Found (List Leg)) (n : ℕ) (rest : List ℕ) : Type 0 where
  pub found-legs : List Leg
  pub is_found : x ≡ found found-legs rest
  pub size : length (hops found-legs) ≡ n

sizes-found : (x : Found (List Leg)) {n : ℕ} {rest : List ℕ} → found n rest ≡ sizes x → Sized x n rest
unfolding sizes
sizes-found (fault j) e = let z : ◌≡◌ {A = ℕ} 0 1 = cc in absurd (omega arith)
sizes-found (found ls after) {n} {rest} e =
    let same_rest : after ≡ rest = cc in
    record { found-legs = ls; is_found = rw same_rest; size = cc }

module _ (ys : List ℕ) where
  pub file-fault : (why : LegRefusal) → number_told ys (Err why) ≡ number_from ys 0 → CountsFile ys (Err why)
  unfolding CountsFile number_told number_from read_file and_then
  file-fault why t = rw (sym t)

  module _ (legs first : ℕ) (t : number_told ys (Ok (legs, first)) ≡ number_from ys 0) where
    pub legs-few : legs ≤ 65535
    legs-few = told-small ys 0 (legs, first) t

    file-legs : read_file ys ≡ and_then (legs_after ys first legs None) all_read
    unfolding number_told number_from read_file and_then legs_after
    file-legs = rw (sym t)

    pub file-refused : {why : LegRefusal} → CountsLegs ys first legs (Err why) → CountsFile ys (Err why)
    unfolding CountsFile number_told and_then
    file-refused u = file-legs ∙ rw (sizes-fault (legs_after ys first legs None) u.told)

    module _ {total end : ℕ} (u : CountsLegs ys first legs (Ok (total, end))) where
      legs-found : Sized (legs_after ys first legs None) total (drop end ys)
      unfolding number_told
      legs-found = sizes-found (legs_after ys first legs None) u.told

      pub file-left : end < length ys → CountsFile ys (Err LeftOver)
      unfolding CountsFile all_read and_then
      file-left h = file-legs ∙ rw (legs-found.is_found, drop-cons ys end 0 h)

      pub file-whole : length ys ≤ end → CountsFile ys (Ok (record { legs = legs; first = first; total = total }))
      unfolding CountsFile all_read and_then
      file-whole h =
          let nothing = drop_of_length-le ys {i = end} h in
          let all : legs_after ys first legs None ≡ found legs-found.found-legs [] = legs-found.is_found ∙ rw nothing in
          record { legs-there = legs-found.found-legs; after = all; all = file-legs ∙ rw all; total-is = legs-found.size }
