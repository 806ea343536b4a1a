-- What is shown of legs and their files (document 02, E3). Each theorem is proved in the file that its proof cites. Assumes nothing.
use Rattle.std.proofs.Common.{None, Result, Ok, ◌≡◌, refl, ◌⊎◌, ◌↔◌, List, ◌++◌, ℕ, suc, ◌+◌, ◌≤◌, ◌<◌, arith, length, take, drop}
use Rattle.mesh.specs.declared.Heading.{Heading}
use Rattle.mesh.specs.declared.Network.{Network}
use Rattle.mesh.specs.declared.Place.{Place}
use Rattle.mesh.specs.Headings.{letters, code, direction}
use Rattle.mesh.specs.Tests.{Test}
use Rattle.mesh.specs.Numbers.{refused, answer, written}
use Rattle.mesh.proofs.Headings.{direction-of-code, code-of-direction}
use Rattle.theory_demands.specs.Demand3 as demand3
use Rattle.theory_demands.specs.Demand3.{request_refusal}
use Rattle.theory_demands.proofs.Theorems.{routes-are-short}
use Rattle.theory_legs.specs.declared.LegRefusal.{LegRefusal}
use Rattle.theory_legs.specs.Legs.{Leg, legs, hops}
use Rattle.theory_legs.specs.Converting.{converted_answer, refusal, Converts, legs_of, letter_tests, file_of, LettersToLegs, file_tests, letters_of, LegsToLetters}
use Rattle.theory_legs.specs.Claims.{Bytes, Straight, SomeOther, SomeLong, RouteAccepted, FileAccepted, FileOfRoute, LeftOver}
use Rattle.theory_legs.proofs.Legs.{hops-of-legs, legs-straight, legs-only}
use Rattle.theory_legs.proofs.Refusals.{letters-numbered, refused-11, refused-23, refused-10}
use Rattle.theory_legs.proofs.FileRefusals.{file-numbered, fault-refuses, refused-fault, file-refused-22, file-refused-10}
use Rattle.theory_legs.proofs.Fronts.{fault-stays}
use Rattle.theory_legs.proofs.ThereAndBack.{route-file-bytes, route-file-accepted, route-file-letters, file-letters-accepted, file-letters-file, only-file, accepted-is-file}
use Rattle.theory_legs.proofs.Promises.{wrote-all, rest-as-was, writes-all}
use Rattle.theory_legs.proofs.Sizes.{file-shorter, short-accepted}

-- The legs of a route

-- they have its hops
pub legs-have-hops : (hs : List Heading) → hops (legs hs) ≡ hs
legs-have-hops = hops-of-legs

-- none is empty, and neighbouring legs differ in direction
pub legs-are-straight : (hs : List Heading) → Straight None (legs hs)
legs-are-straight = legs-straight

-- and no other straight runs have these hops
pub legs-are-the-only : (hs : List Heading) (ls : List Leg) → Straight None ls → hops ls ≡ hs → ls ≡ legs hs
legs-are-the-only = legs-only

-- There and back, with room enough

-- the file of an accepted route is accepted, and its letters are the route
pub route-there-and-back : (xs : List ℕ) → RouteAccepted xs → FileAccepted (file_of xs) × (letters_of (file_of xs) ≡ xs)
route-there-and-back xs a = (route-file-accepted xs a, route-file-letters xs a)

-- the letters of an accepted file are accepted, and their file is that file, byte for byte
pub file-there-and-back : (ys : List ℕ) → Bytes ys → FileAccepted ys → RouteAccepted (letters_of ys) × (file_of (letters_of ys) ≡ ys)
file-there-and-back ys bs a = (file-letters-accepted ys bs a, file-letters-file ys bs a)

-- the same of the operations, which keep their promises: of what letters to legs wrote, legs to letters makes the letters again,
pub letters-again : {xs out : List ℕ} {n : ℕ} {after : List ℕ} → LettersToLegs xs out (Ok n) after →
    {out' : List ℕ} {r : Result ℕ LegRefusal} {after' : List ℕ} → LegsToLetters (take n after) out' r after' → length xs ≤ length out' →
    (r ≡ Ok (length xs)) × (take (length xs) after' ≡ xs)
letters-again {xs} p q room =
    let t = wrote-all p refl in
    let back = route-file-letters xs t.0 in
    rw back at (writes-all (rw t.1 at q) (file-numbered (file_of xs)) (route-file-accepted xs t.0) (rw back room))

-- and of what legs to letters wrote, letters to legs makes the file again
pub file-again : {ys out : List ℕ} {n : ℕ} {after : List ℕ} → Bytes ys → LegsToLetters ys out (Ok n) after →
    {out' : List ℕ} {r : Result ℕ LegRefusal} {after' : List ℕ} → LettersToLegs (take n after) out' r after' → length ys ≤ length out' →
    (r ≡ Ok (length ys)) × (take (length ys) after' ≡ ys)
file-again {ys} bs p q room =
    let t = wrote-all p refl in
    let back = file-letters-file ys bs t.0 in
    rw back at (writes-all (rw t.1 at q) (letters-numbered (letters_of ys)) (file-letters-accepted ys bs t.0) (rw back room))

-- bytes after what was written are as they were
pub rest-untouched : {tests : List Test} {new out : List ℕ} {n : ℕ} {after : List ℕ} → Converts tests new out (Ok n) after →
    drop n after ≡ drop n out
rest-untouched does = rest-as-was does refl

-- Each accepted route has exactly one file

-- by route-there-and-back it has one, which is bytes;
pub files-are-bytes : (xs : List ℕ) → RouteAccepted xs → Bytes (file_of xs)
files-are-bytes = route-file-bytes

-- any other is the same
pub one-file : (xs ys : List ℕ) → Bytes ys → FileAccepted ys → letters_of ys ≡ xs → ys ≡ file_of xs
one-file = only-file

-- a file is accepted exactly if it is the file of some accepted route
pub accepted-files : (ys : List ℕ) → Bytes ys → FileAccepted ys ↔ FileOfRoute ys
accepted-files = accepted-is-file

-- a route of 16,384 hops or fewer is accepted,
pub short-routes : (hs : List Heading) → length hs ≤ 16384 → RouteAccepted (letters hs)
short-routes = short-accepted

-- and so is each that Route hands out
pub routes-have-files : (network : Network) (columns rows : ℕ) (map : List ℕ) (s d : Place) → request_refusal network columns rows map s d ≡ 0 →
    RouteAccepted (letters (demand3.hops network columns rows map s d))
routes-have-files network columns rows map s d served =
    short-accepted (demand3.hops network columns rows map s d) (omega (arith, routes-are-short network columns rows map s d served))

-- three bytes more than the route has letters are always room for its file
pub file-room : (xs : List ℕ) → RouteAccepted xs → length (file_of xs) ≤ length xs + 3
file-room = file-shorter

-- Refusals

-- where one applies, the first that does is the answer, and no byte is altered
pub else-refused : {tests : List Test} {new out : List ℕ} {r : Result ℕ LegRefusal} {after : List ℕ} → Converts tests new out r after →
    {k : ℕ} → refusal tests new out ≡ suc k → (converted_answer r ≡ refused (suc k)) × (after ≡ out)
unfolding answer written
else-refused does e = (rw e at does.answers, rw e at does.writes)

-- of letters to legs, each exactly by its condition:
module _ (xs out : List ℕ) where
  -- some letter is not one of E, N, S, W
  pub refusal-11 : refusal (letter_tests xs) (file_of xs) out ≡ 11 ↔ SomeOther xs
  refusal-11 = refused-11 xs out

  -- else a leg over 16,384, or over 65,535 legs
  pub refusal-23 : refusal (letter_tests xs) (file_of xs) out ≡ 23 ↔ ((SomeOther xs → ⊥) × (SomeLong (legs_of xs) ⊎ (65535 < length (legs_of xs))))
  refusal-23 = refused-23 xs out

  -- else an output shorter than the file
  pub refusal-10 : refusal (letter_tests xs) (file_of xs) out ≡ 10 ↔ (RouteAccepted xs × (length out < length (file_of xs)))
  refusal-10 = refused-10 xs out

-- of legs to letters, which reads from the front: what is refused by 20, 21 or 22 is refused so whatever bytes follow;
pub first-fault : (ys more out : List ℕ) {k : ℕ} → 20 ≤ k → refusal (file_tests ys) (letters_of ys) out ≡ k →
    refusal (file_tests (ys ++ more)) (letters_of (ys ++ more)) out ≡ k
first-fault ys more out l e = fault-refuses (ys ++ more) out (fault-stays more ys (refused-fault ys out (omega arith) e) (λ z. omega arith))

-- 22 exactly if bytes follow an accepted file,
pub file-refusal-22 : (ys out : List ℕ) → Bytes ys → refusal (file_tests ys) (letters_of ys) out ≡ 22 ↔ LeftOver ys
file-refusal-22 = file-refused-22

-- and 10 exactly if an accepted file has more letters than the output has room for
pub file-refusal-10 : (ys out : List ℕ) → refusal (file_tests ys) (letters_of ys) out ≡ 10 ↔ (FileAccepted ys × (length out < length (letters_of ys)))
file-refusal-10 = file-refused-10

-- The codes of the directions

pub codes-differ : (h : Heading) → direction (code h) ≡ h
codes-differ = direction-of-code

pub all_codes : (k : ℕ) → k < 4 → code (direction k) ≡ k
all_codes = code-of-direction
