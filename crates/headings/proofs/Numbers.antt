-- The numbers of headings tell them apart, as their letters do, and their codes are worked out from them. Assumes nothing.
use Rattle.std.proofs.Common.{◌≡◌, ◌-◌, ◌/◌, ◌≤◌, Some, true, refl, ap, eqb, arith}
use Rattle.std.proofs.lemmas.Bool.{eqb-true, eq-eqb}
use Rattle.std.specs.Int.Bits.{bit_xor}
use Rattle.mesh.specs.declared.Heading.{Heading}
use Rattle.mesh.specs.declared.Heading.TheVariants.{East as E, North as N, South as S, West as W}
use Rattle.mesh.specs.Headings.{same, code, heading_number, last_of}
use Rattle.mesh.proofs.Bools.{bool-ext}
use Rattle.mesh.proofs.Headings.{same_self, same-heading}

numbered : (h : Heading) → last_of (heading_number h) ≡ Some h
unfolding last_of
numbered E = refl
numbered N = refl
numbered S = refl
numbered W = refl

pub same-by-number : (g h : Heading) → eqb (heading_number g) (heading_number h) ≡ same g h
same-by-number g h = bool-ext _ _ there back
  where
    there : eqb (heading_number g) (heading_number h) ≡ true → same g h ≡ true
    there e =
        let one : g ≡ h = cc (numbered g, numbered h, ap last_of (eqb-true (heading_number g) (heading_number h) e)) in
        rw one (same_self h)

    back : same g h ≡ true → eqb (heading_number g) (heading_number h) ≡ true
    back e = eq-eqb _ _ (ap heading_number (same-heading g h e))

-- the numbers count from 1
pub number-some : (h : Heading) → 1 ≤ heading_number h
number-some E = omega arith
number-some N = omega arith
number-some S = omega arith
number-some W = omega arith

-- counted from 0, the Gray codes of the numbers are the codes of the directions
pub gray-code : (h : Heading) → bit_xor (heading_number h - 1) ((heading_number h - 1) / 2) ≡ code h
gray-code E = refl
gray-code N = refl
gray-code S = refl
gray-code W = refl
