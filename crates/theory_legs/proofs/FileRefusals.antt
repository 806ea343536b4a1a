-- When a file is refused: 22 and 10 by their conditions. Assumes nothing.
use Rattle.std.proofs.Common.{None, ◌≡◌, refl, sym, ap, ◌∙◌, ◌↔◌, true, List, [], ◌∷◌, ◌++◌, append-nil, ℕ, ◌≤◌, ◌<◌, arith, lt-ltb, length}
use Rattle.std.proofs.Math.Decide.{dec_lt}
use Rattle.mesh.specs.Tests.{first}
use Rattle.mesh.proofs.Tests.{numbered}
use Rattle.theory_legs.specs.Groups.{fault, found, and_then, read_number}
use Rattle.theory_legs.specs.Legs.{Leg}
use Rattle.theory_legs.specs.Files.{file, read_legs, all_read, read_file}
use Rattle.theory_legs.specs.Converting.{refusal, fault_tests, file_tests, letters_of}
use Rattle.theory_legs.specs.Claims.{Bytes, FileAccepted, LeftOver}
use Rattle.theory_legs.proofs.Groups.{faulty, read, outcome}
use Rattle.theory_legs.proofs.Files.{read-file, read-file-rest, file-legs-read, file-read}
use Rattle.theory_legs.proofs.Faults.{number-fault-known, legs-fault-known, fault-known}
use Rattle.theory_legs.proofs.Refusals.{room-lacks, room-enough, room-only}

pub file-numbered : (ys : List ℕ) → numbered (file_tests ys) ≡ true
unfolding file_tests fault_tests numbered
file-numbered ys =
    elim (outcome (read_file ys)) [
      | faulty k e ↦ rw (e, lt-ltb 0 k (omega (arith, fault-known ys e)))
      | read ls rest e ↦ rw e
    ]

-- the legs of an accepted file
pub record LegsFound (ys : List ℕ) : Type 0 where
  pub found-legs : List Leg
  pub left : List ℕ
  pub is_found : read_file ys ≡ found found-legs left

pub accepted-legs : (ys : List ℕ) → FileAccepted ys → LegsFound ys
unfolding file_tests fault_tests first
accepted-legs ys a =
    elim (outcome (read_file ys)) [
      | faulty k e ↦ let z : k ≡ 0 = rw e at a in absurd (omega (arith, fault-known ys e))
      | read ls rest e ↦ record { found-legs = ls; left = rest; is_found = e }
    ]

pub legs-accepted : (ys : List ℕ) {ls : List Leg} {rest : List ℕ} → read_file ys ≡ found ls rest → FileAccepted ys
unfolding file_tests fault_tests first
legs-accepted ys e = rw e

module _ (ys out : List ℕ) where
  abbrev refuses : ℕ
  refuses = refusal (file_tests ys) (letters_of ys) out

  -- the fault that is met is the answer
  pub fault-refuses : {k : ℕ} → read_file ys ≡ fault k → refuses ≡ k
  unfolding refusal file_tests fault_tests first
  fault-refuses e = rw e

  room-few : FileAccepted ys → refuses ≤ 10
  room-few a =
      elim (dec_lt (length out) (length (letters_of ys))) [
        | yes h ↦ omega (arith, room-lacks (file_tests ys) (letters_of ys) out (file-numbered ys) a h)
        | no h ↦ omega (arith, room-enough (file_tests ys) (letters_of ys) out (file-numbered ys) a (omega arith))
      ]

  -- and an answer above 10 is a fault that is met
  pub refused-fault : {k : ℕ} → 11 ≤ k → refuses ≡ k → read_file ys ≡ fault k
  refused-fault l e =
      elim (outcome (read_file ys)) [
        | faulty j f ↦ f ∙ ap fault (sym (fault-refuses f) ∙ e)
        | read ls rest f ↦ absurd (omega (arith, room-few (legs-accepted ys f), e))
      ]

  -- 10: the output is too short for the letters of an accepted file
  pub file-refused-10 : refuses ≡ 10 ↔ (FileAccepted ys × (length out < length (letters_of ys)))
  file-refused-10 = (there, λ h. room-lacks (file_tests ys) (letters_of ys) out (file-numbered ys) h.0 h.1)
    where
      there : refuses ≡ 10 → FileAccepted ys × (length out < length (letters_of ys))
      there e =
          elim (outcome (read_file ys)) [
            | faulty k f ↦ absurd (omega (arith, fault-known ys f, fault-refuses f, e))
            | read ls rest f ↦
                let a = legs-accepted ys f in
                (a, room-only (file_tests ys) (letters_of ys) out (file-numbered ys) a e)
          ]

-- 22: bytes after an accepted file

bytes-front : (xs ys : List ℕ) → Bytes (xs ++ ys) → Bytes xs
unfolding Bytes
bytes-front [] ys bs = tt
bytes-front (x ∷ xs) ys bs = (bs.0, bytes-front xs ys bs.1)

all-but-some : (ls : List Leg) (rest : List ℕ) → 0 < length rest → all_read ls rest ≡ fault 22
unfolding all_read
all-but-some ls [] h = absurd (omega arith)
all-but-some ls (x ∷ xs) h = refl

all-faulty : (ls : List Leg) (rest : List ℕ) → all_read ls rest ≡ fault 22 → 0 < length rest
unfolding all_read
all-faulty ls [] e = let z : ◌≡◌ {A = ℕ} 0 1 = cc in absurd (omega arith)
all-faulty ls (x ∷ xs) e = omega arith

left-fault : (ys : List ℕ) → Bytes ys → LeftOver ys → read_file ys ≡ fault 22
left-fault ys bs l =
    let front_Bytes = bytes-front l.front l.rest (rw l.whole at bs) in
    let front-legs = accepted-legs l.front l.accepted in
    let t = file-read l.front front_Bytes front-legs.is_found in
    let front-file = t.spelled ∙ append-nil (file front-legs.found-legs) in
    rw (l.whole, front-file)
    (read-file-rest front-legs.found-legs l.rest t.straight t.fits ∙ all-but-some front-legs.found-legs l.rest l.some)

fault-left : (ys : List ℕ) → Bytes ys → read_file ys ≡ fault 22 → LeftOver ys
unfolding read_file and_then
fault-left ys bs e =
    elim (outcome (read_number ys)) [
      | faulty k u ↦
          let z : k ≡ 22 = cc (rw u at e) in
          absurd (omega (arith, number-fault-known ys u))
      | read n after u ↦
          elim (outcome (read_legs n None after)) [
            | faulty k v ↦
                let z : k ≡ 22 = cc (rw (u, v) at e) in
                absurd (omega (arith, legs-fault-known n None after v))
            | read ls rest v ↦
                let t = file-legs-read ys bs u v in
                record {
                  front = file ls;
                  accepted = legs-accepted (file ls) (read-file ls t.straight t.fits);
                  rest = rest;
                  some = all-faulty ls rest (rw (u, v) at e);
                  whole = t.spelled;
                }
          ]
    ]

pub file-refused-22 : (ys out : List ℕ) → Bytes ys → refuses ys out ≡ 22 ↔ LeftOver ys
file-refused-22 ys out bs = (
  λ e. fault-left ys bs (refused-fault ys out (omega arith) e),
  λ l. fault-refuses ys out (left-fault ys bs l),
)
