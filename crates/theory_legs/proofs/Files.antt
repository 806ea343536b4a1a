-- Legs read back from their file are the same, and a file that is read is that of its legs. Assumes nothing.
use Rattle.std.proofs.Common.{Option, Some, None, ◌≡◌, refl, ap, ◌∙◌, inl, inr, true, false, List, [], ◌∷◌, ◌++◌, append_assoc, append-nil, ℕ, zero, suc, ◌+◌, ◌/◌, ◌%◌, ◌≤◌, mod-lt, arith, ltb-false, le-ltb, length}
use Rattle.std.proofs.lemmas.Bool.{cases_Bool, or_parts}
use Rattle.mesh.specs.declared.Heading.{Heading}
use Rattle.mesh.specs.Headings.{last_is, code}
use Rattle.mesh.proofs.Headings.{code-few, direction-of-code, code-of-direction}
use Rattle.theory_legs.specs.Groups.{number_bytes, fault, found, and_then, read_number}
use Rattle.theory_legs.specs.Legs.{Leg}
use Rattle.theory_legs.specs.Files.{leg_number, leg_of, leg_bytes, file, leg_before, read_legs, all_read, read_file}
use Rattle.theory_legs.specs.Converting.{some_long, too_long}
use Rattle.theory_legs.specs.Claims.{Bytes, Straight}
use Rattle.theory_legs.proofs.Groups.{read_number_lem, number-bytes, faulty, read, outcome, number_read, fault-found}

-- A leg and its number

number-tells : (l : Leg) → 1 ≤ l.length → (leg_number l / 4 + 1 ≡ l.length) × (leg_number l % 4 ≡ code l.heading)
unfolding leg_number
number-tells l h = let f = code-few l.heading in (omega arith, omega arith)

leg-of-number : (l : Leg) → 1 ≤ l.length → leg_of (leg_number l) ≡ l
unfolding leg_of
leg-of-number l h = let t = number-tells l h in rw (t.0, t.1, direction-of-code l.heading)

number-of-leg : (n : ℕ) → leg_number (leg_of n) ≡ n
unfolding leg_of leg_number
number-of-leg n = rw (code-of-direction (n % 4) (mod-lt n (omega arith))) (omega arith)

leg-number-small : (l : Leg) → 1 ≤ l.length → l.length ≤ 16384 → leg_number l ≤ 65535
unfolding leg_number
leg-number-small l h k = let f = code-few l.heading in omega arith

leg-long : (n : ℕ) → 1 ≤ (leg_of n).length
unfolding leg_of
leg-long n = omega arith

leg-short : (n : ℕ) → n ≤ 65535 → (leg_of n).length ≤ 16384
unfolding leg_of
leg-short n h = omega arith

-- One leg

module _ (k : ℕ) (before : Option Heading) (xs : List ℕ) where
  -- its number is not read
  pub leg-unread : {f : ℕ} → read_number xs ≡ fault f → read_legs (suc k) before xs ≡ fault f
  unfolding read_legs and_then
  leg-unread e = rw e

  module _ {n : ℕ} {rest : List ℕ} (e : read_number xs ≡ found n rest) where
    -- its direction is its forerunner's
    pub leg-repeats : last_is before (leg_of n).heading ≡ true → read_legs (suc k) before xs ≡ fault 21
    unfolding read_legs and_then
    leg-repeats r = rw (e, r)

    -- it is before the others
    pub leg-differs : last_is before (leg_of n).heading ≡ false →
        read_legs (suc k) before xs ≡ leg_before (leg_of n) (read_legs k (Some (leg_of n).heading) rest)
    unfolding read_legs and_then
    leg-differs r = rw (e, r)

-- There and back

read-legs : (before : Option Heading) (ls : List Leg) (rest : List ℕ) → Straight before ls → some_long ls ≡ false →
    read_legs (length ls) before (leg_bytes ls ++ rest) ≡ found ls rest
unfolding read_legs leg_bytes Straight some_long leg_before
read-legs before [] rest s e = refl
read-legs before (l ∷ ls) rest s e =
    let short = or_parts _ _ e in
    let n = leg_number l in
    let same-leg = leg-of-number l s.1 in
    let small = leg-number-small l s.1 (ltb-false 16384 l.length short.0) in
    rw (append_assoc (number_bytes n) (leg_bytes ls) rest)
    (leg-differs (length ls) before (number_bytes n ++ (leg_bytes ls ++ rest)) (read_number_lem n (leg_bytes ls ++ rest) small) (rw same-leg s.0) ∙
    rw (same-leg, read-legs (Some l.heading) ls rest s.2 short.1))

-- what is known of legs that were read
record LegsRead (k : ℕ) (before : Option Heading) (xs : List ℕ) (ls : List Leg) (rest : List ℕ) : Type 0 where
  pub spelled : xs ≡ leg_bytes ls ++ rest
  pub count : length ls ≡ k
  pub straight : Straight before ls
  pub short : some_long ls ≡ false

legs-read : (k : ℕ) (before : Option Heading) (xs : List ℕ) {ls : List Leg} {rest : List ℕ} → Bytes xs →
    read_legs k before xs ≡ found ls rest → LegsRead k before xs ls rest
unfolding read_legs leg_bytes Straight some_long leg_before
legs-read zero before xs {ls} {rest} bs e =
    let none_read : [] ≡ ls = cc in
    let all_left : xs ≡ rest = cc in
    rw (← none_read, ← all_left) (record { spelled = refl; count = refl; straight = tt; short = refl })
legs-read (suc k) before xs {ls} {rest} bs e =
    elim (outcome (read_number xs)) [
      | faulty f u ↦ fault-found (leg-unread k before xs u) e
      | read n after u ↦
          elim (cases_Bool (last_is before (leg_of n).heading)) [
            | inl r ↦ fault-found (leg-repeats k before xs u r) e
            | inr r ↦
                let told = number_read xs u in
                elim (outcome (read_legs k (Some (leg_of n).heading) after)) [
                  | faulty f v ↦ fault-found {k = f} (leg-differs k before xs u r ∙ rw v) e
                  | read others left v ↦
                      let d : read_legs (suc k) before xs ≡ found (leg_of n ∷ others) left = leg-differs k before xs u r ∙ rw v in
                      let all : leg_of n ∷ others ≡ ls = cc in
                      let end : left ≡ rest = cc in
                      let t = legs-read k (Some (leg_of n).heading) after (told.left bs) v in
                      rw (← all, ← end)
                      (record {
                        spelled =
                            told.spelled bs ∙
                            rw (number-of-leg n, append_assoc (number_bytes n) (leg_bytes others) left, ← t.spelled);
                        count = ap suc t.count;
                        straight = (r, leg-long n, t.straight);
                        short = rw (le-ltb 16384 (leg_of n).length (leg-short n told.small), t.short);
                      })
                ]
          ]
    ]

-- a file is bytes

bytes-append : (xs ys : List ℕ) → Bytes xs → Bytes ys → Bytes (xs ++ ys)
unfolding Bytes
bytes-append [] ys p q = q
bytes-append (x ∷ xs) ys p q = (p.0, bytes-append xs ys p.1 q)

legs-bytes : (before : Option Heading) (ls : List Leg) → Straight before ls → some_long ls ≡ false → Bytes (leg_bytes ls)
unfolding leg_bytes Straight some_long Bytes
legs-bytes before [] s e = tt
legs-bytes before (l ∷ ls) s e =
    let short = or_parts _ _ e in
    let small = leg-number-small l s.1 (ltb-false 16384 l.length short.0) in
    bytes-append (number_bytes (leg_number l)) (leg_bytes ls) (number-bytes (leg_number l) small)
    (legs-bytes (Some l.heading) ls s.2 short.1)

pub file-bytes : (ls : List Leg) → Straight None ls → too_long ls ≡ false → Bytes (file ls)
unfolding file too_long
file-bytes ls s e =
    let fit = or_parts _ _ e in
    bytes-append (number_bytes (length ls)) (leg_bytes ls) (number-bytes (length ls) (ltb-false 65535 (length ls) fit.1))
    (legs-bytes None ls s fit.0)

-- the number of legs, the legs and what is left over
pub read-file-rest : (ls : List Leg) (rest : List ℕ) → Straight None ls → too_long ls ≡ false → read_file (file ls ++ rest) ≡ all_read ls rest
unfolding read_file file and_then too_long
read-file-rest ls rest s e =
    let fit = or_parts _ _ e in
    let count = read_number_lem (length ls) (leg_bytes ls ++ rest) (ltb-false 65535 (length ls) fit.1) in
    rw (append_assoc (number_bytes (length ls)) (leg_bytes ls) rest, count, read-legs None ls rest s fit.0)

pub read-file : (ls : List Leg) → Straight None ls → too_long ls ≡ false → read_file (file ls) ≡ found ls []
unfolding all_read
read-file ls s e = rw append-nil at (read-file-rest ls [] s e)

-- what is known of a file whose legs were read, and what is left over
pub record FileRead (xs : List ℕ) (ls : List Leg) (rest : List ℕ) : Type 0 where
  pub spelled : xs ≡ file ls ++ rest
  pub straight : Straight None ls
  pub fits : too_long ls ≡ false

pub file-legs-read : (xs : List ℕ) {n : ℕ} {after : List ℕ} {ls : List Leg} {rest : List ℕ} → Bytes xs →
    read_number xs ≡ found n after → read_legs n None after ≡ found ls rest → FileRead xs ls rest
unfolding file too_long
file-legs-read xs {n} {after} {ls} {rest} bs u v =
    let told = number_read xs u in
    let t = legs-read n None after (told.left bs) v in
    let few : length ls ≤ 65535 = omega (arith, told.small, t.count) in
    record {
      spelled =
          told.spelled bs ∙ rw (append_assoc (number_bytes (length ls)) (leg_bytes ls) rest, t.count, ← t.spelled);
      straight = t.straight;
      fits = rw (t.short, le-ltb 65535 (length ls) few);
    }

pub file-read : (xs : List ℕ) {ls : List Leg} {rest : List ℕ} → Bytes xs → read_file xs ≡ found ls rest → FileRead xs ls []
unfolding read_file and_then all_read
file-read xs {ls} {rest} bs e =
    elim (outcome (read_number xs)) [
      | faulty f u ↦ fault-found {k = f} (rw u) e
      | read n after u ↦
          elim (outcome (read_legs n None after)) [
            | faulty f v ↦ fault-found {k = f} (rw (u, v)) e
            | read others left v ↦
                let w : all_read others left ≡ found ls rest = rw (u, v) at e in
                let nothing = all_read_lem others left w in
                rw (nothing.0, nothing.1) at (file-legs-read xs bs u v)
          ]
    ]
  where
    all_read_lem : (others : List Leg) (left : List ℕ) → all_read others left ≡ found ls rest → (others ≡ ls) × (left ≡ [])
    all_read_lem others [] e = (cc, refl)
    all_read_lem others (x ∷ xs) e = fault-found refl e
