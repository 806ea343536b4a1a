-- How many bytes and letters legs have. Assumes nothing.
use Rattle.std.proofs.Common.{Option, Some, None, ◌≡◌, refl, sym, ◌∙◌, false, List, [], ◌∷◌, ℕ, ◌+◌, ◌-◌, ◌*◌, ◌≤◌, ◌<◌, arith, le-ltb, length, replicate, length-append}
use Rattle.std.proofs.Math.Decide.{dec_lt}
use Rattle.std.proofs.lemmas.List.{length-replicate}
use Rattle.mesh.specs.declared.Heading.{Heading}
use Rattle.mesh.specs.Headings.{code, letters}
use Rattle.mesh.proofs.Headings.{code-few}
use Rattle.mesh.proofs.Lists.{letters-length}
use Rattle.theory_legs.specs.Groups.{number_bytes}
use Rattle.theory_legs.specs.Legs.{Leg, leg, legs, hops}
use Rattle.theory_legs.specs.Files.{leg_number, leg_bytes, file}
use Rattle.theory_legs.specs.Converting.{some_long, too_long, hops_named, legs_of, file_of}
use Rattle.theory_legs.specs.Claims.{Straight, RouteAccepted}
use Rattle.theory_legs.proofs.Groups.{size-one, size-two, size-three, size_few}
use Rattle.theory_legs.proofs.Legs.{hops-of-legs, legs-straight}
use Rattle.theory_legs.proofs.Letters.{hops-of-letters, letters-no-other, letters-of-hops}
use Rattle.theory_legs.proofs.Refusals.{accepted-fits, fits-accepted}

-- the bytes of a leg by its length, whatever its direction
module _ (h : Heading) (n : ℕ) where
  pub leg-one : 1 ≤ n → n ≤ 32 → length (number_bytes (leg_number (leg h n))) ≡ 1
  unfolding leg_number
  leg-one l m = size-one ((n - 1) * 4 + code h) (omega (arith, code-few h))

  pub leg-two : 32 < n → n ≤ 4096 → length (number_bytes (leg_number (leg h n))) ≡ 2
  unfolding leg_number
  leg-two l m = size-two ((n - 1) * 4 + code h) (omega (arith, code-few h)) (omega (arith, code-few h))

  pub leg-three : 4096 < n → length (number_bytes (leg_number (leg h n))) ≡ 3
  unfolding leg_number
  leg-three l = size-three ((n - 1) * 4 + code h) (omega (arith, code-few h))

  -- not more than it has letters
  leg-shorter : 1 ≤ n → length (number_bytes (leg_number (leg h n))) ≤ n
  leg-shorter l =
      elim (dec_lt 32 n) [
        | yes m ↦ omega (arith, size_few (leg_number (leg h n)))
        | no m ↦ omega (arith, leg-one l (omega arith))
      ]

hops-length : (l : Leg) (ls : List Leg) → length (hops (l ∷ ls)) ≡ l.length + length (hops ls)
unfolding hops
hops-length l ls = length-append (replicate l.length l.heading) (hops ls) ∙ rw (length-replicate l.length l.heading)

-- of straight legs
module _ where
  bytes-shorter : (before : Option Heading) (ls : List Leg) → Straight before ls → length (leg_bytes ls) ≤ length (hops ls)
  unfolding leg_bytes Straight
  bytes-shorter before [] s = omega arith
  bytes-shorter before (l ∷ ls) s =
      omega (
        arith,
        hops-length l ls,
        length-append (number_bytes (leg_number l)) (leg_bytes ls),
        leg-shorter l.heading l.length s.1,
        bytes-shorter (Some l.heading) ls s.2,
      )

  legs-fewer : (before : Option Heading) (ls : List Leg) → Straight before ls → length ls ≤ length (hops ls)
  unfolding Straight
  legs-fewer before [] s = omega arith
  legs-fewer before (l ∷ ls) s = omega (arith, hops-length l ls, s.1, legs-fewer (Some l.heading) ls s.2)

none-long : (ls : List Leg) → length (hops ls) ≤ 16384 → some_long ls ≡ false
unfolding some_long
none-long [] h = refl
none-long (l ∷ ls) h =
    rw (le-ltb 16384 l.length (omega (arith, hops-length l ls)))
    (none-long ls (omega (arith, hops-length l ls)))

-- a file has at most three bytes more than its route has letters
pub file-shorter : (xs : List ℕ) → RouteAccepted xs → length (file_of xs) ≤ length xs + 3
unfolding file_of file
file-shorter xs a =
    let ls = legs_of xs in
    let same-letters = letters-of-hops xs (accepted-fits xs a).0 in
    let same_size : length (hops ls) ≡ length xs = rw (hops-of-legs (hops_named xs)) (sym (letters-length (hops_named xs)) ∙ rw same-letters) in
    omega (arith, length-append (number_bytes (length ls)) (leg_bytes ls), size_few (length ls), bytes-shorter None ls (legs-straight (hops_named xs)))

-- a route of 16,384 hops or fewer is accepted
pub short-accepted : (hs : List Heading) → length hs ≤ 16384 → RouteAccepted (letters hs)
unfolding too_long
short-accepted hs h =
    let ls = legs hs in
    let size : length (hops ls) ≡ length hs = rw (hops-of-legs hs) in
    let few = legs-fewer None ls (legs-straight hs) in
    fits-accepted (letters hs) (letters-no-other hs)
    (rw (hops-of-letters hs, none-long ls (omega arith), le-ltb 65535 (length ls) (omega arith)))
