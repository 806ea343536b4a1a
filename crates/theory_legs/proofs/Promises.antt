-- What an operation that keeps its promise did where it wrote, and whenever nothing is to be refused. Assumes nothing.
use Rattle.std.proofs.Common.{Result, Ok, Err, ◌≡◌, refl, true, List, ◌++◌, ℕ, zero, suc, pred, ◌≤◌, ◌<◌, length, take, drop, drop_at}
use Rattle.std.proofs.Math.Seq.{take-append_seam}
use Rattle.mesh.specs.Tests.{Test, first}
use Rattle.mesh.specs.Numbers.{returned, answer, written}
use Rattle.mesh.proofs.Tests.{numbered}
use Rattle.theory_legs.specs.declared.LegRefusal.{LegRefusal}
use Rattle.theory_legs.specs.declared.LegRefusal.TheVariants.{Room, NoLetter, CutShort, BadNumber, SameDirection, LeftOver, TooLong}
use Rattle.theory_legs.specs.Converting.{leg_refusal_number, converted_answer, refusal, Converts}
use Rattle.theory_legs.proofs.Refusals.{before-room, room-lacks, room-enough}

-- what returns has no refusal
answer-returned : (k n : ℕ) {m : ℕ} → returned m ≡ answer k n → (k ≡ 0) × (m ≡ n)
unfolding answer
answer-returned zero n e = (refl, cc)
answer-returned (suc k) n e = (cc, cc)

wrote-only : (r : Result ℕ LegRefusal) {n : ℕ} → converted_answer r ≡ returned n → r ≡ Ok n
wrote-only (Ok m) {n} e = let same : m ≡ n = cc in rw same
wrote-only (Err why) e = cc

-- the whole of what was written stands at the front
written-front : (new out : List ℕ) → take (length new) (written 0 new out) ≡ new
unfolding written
written-front new out = take-append_seam new (drop (length new) out)

module _ {tests : List Test} {new out : List ℕ} {r : Result ℕ LegRefusal} {after : List ℕ} (does : Converts tests new out r after) where
  pub wrote-all : {n : ℕ} → r ≡ Ok n → (first tests ≡ 0) × (take n after ≡ new)
  wrote-all {n} e =
      let t = answer-returned (refusal tests new out) (length new) (rw e at does.answers) in
      (before-room tests new out t.0, rw (t.1, does.writes, t.0) (written-front new out))

  pub rest-as-was : {n : ℕ} → r ≡ Ok n → drop n after ≡ drop n out
  unfolding written
  rest-as-was {n} e =
      let t = answer-returned (refusal tests new out) (length new) (rw e at does.answers) in
      rw (t.1, does.writes, t.0) (drop_at new _ _ refl)

  pub writes-all : numbered tests ≡ true → first tests ≡ 0 → length new ≤ length out →
      (r ≡ Ok (length new)) × (take (length new) after ≡ new)
  unfolding answer
  writes-all n clear h =
      let none = room-enough tests new out n clear h in
      (wrote-only r (rw none at does.answers), rw (does.writes, none) (written-front new out))

-- no refusal has number 0
pub number-some : (r : LegRefusal) → leg_refusal_number r ≡ suc (pred (leg_refusal_number r))
number-some Room = refl
number-some NoLetter = refl
number-some CutShort = refl
number-some BadNumber = refl
number-some SameDirection = refl
number-some LeftOver = refl
number-some TooLong = refl

module _ {tests : List Test} {new out : List ℕ} where
  -- on a refusal it says why, and alters nothing
  pub refuses-as : (r : LegRefusal) → refusal tests new out ≡ leg_refusal_number r → Converts tests new out (Err r) out
  unfolding answer written
  refuses-as r e = record { answers = rw (e, number-some r); writes = rw (e, number-some r) }

  -- where nothing is refused but room
  module _ (n : numbered tests ≡ true) (clear : first tests ≡ 0) {size : ℕ} (sized : length new ≡ size) where
    pub refuses-room : length out < size → Converts tests new out (Err Room) out
    refuses-room h = refuses-as Room (room-lacks tests new out n clear (rw sized h))

    pub wrote_as : {after : List ℕ} → size ≤ length out → after ≡ new ++ drop (length new) out → Converts tests new out (Ok size) after
    unfolding answer written
    wrote_as h e =
        let none = room-enough tests new out n clear (rw sized h) in
        record { answers = rw (none, sized); writes = rw none e }
