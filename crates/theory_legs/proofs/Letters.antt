-- Letters and the hops that they name. Assumes nothing.
use Rattle.std.proofs.Common.{Some, None, ◌≡◌, refl, sym, ◌∙◌, ◌↔◌, inl, inr, true, false, List, [], ◌∷◌, ℕ, suc, arith, get_or}
use Rattle.std.proofs.lemmas.Bool.{cases_Bool, or_parts}
use Rattle.mesh.specs.declared.Heading.{Heading}
use Rattle.mesh.specs.Headings.{letters, named}
use Rattle.mesh.specs.Maps.{some}
use Rattle.mesh.proofs.Bools.{true-false}
use Rattle.mesh.proofs.Some.{none_passes}
use Rattle.mesh.proofs.Headings.{letter-named, is-hop, is-other, name}
use Rattle.theory_legs.specs.Converting.{is_other, no_letter, some_other, hop_by, hops_named}
use Rattle.theory_legs.specs.Claims.{SomeOther}

pub hops-of-letters : (hs : List Heading) → hops_named (letters hs) ≡ hs
unfolding hops_named letters hop_by
hops-of-letters [] = refl
hops-of-letters (h ∷ hs) = rw (letter-named h, hops-of-letters hs)

pub letters-no-other : (hs : List Heading) → some_other (letters hs) ≡ false
unfolding some_other some letters is_other
letters-no-other hs = from 0 hs
  where
    from : (i : ℕ) (gs : List Heading) → some no_letter i (letters gs) ≡ false
    from i [] = refl
    from i (g ∷ gs) = rw (letter-named g) (from (suc i) gs)

pub letters-of-hops : (xs : List ℕ) → some_other xs ≡ false → letters (hops_named xs) ≡ xs
unfolding some_other some hops_named letters is_other hop_by
letters-of-hops xs e = from 0 xs e
  where
    from : (i : ℕ) (ys : List ℕ) → some no_letter i ys ≡ false → letters (hops_named ys) ≡ ys
    from i [] e = refl
    from i (y ∷ ys) e =
        let clear = or_parts (is_other (named y)) (some no_letter (suc i) ys) e in
        elim (name y) [
          | is-hop h s ↦ rw (s, letter-named h, from (suc i) ys clear.1)
          | is-other n ↦ let c : true ≡ false = rw n at clear.0 in true-false refl c
        ]

-- some letter is none of the four

other-told : (i : ℕ) (xs : List ℕ) → some no_letter i xs ≡ true → SomeOther xs
unfolding some is_other
other-told i [] e = true-false e refl
other-told i (x ∷ xs) e =
    elim (name x) [
      | is-hop h s ↦
          let n : named x ≡ Some h = rw s (letter-named h) in
          let o = other-told (suc i) xs (rw n at e) in
          record { index = suc o.index; within = omega (arith, o.within); no-letter = o.no-letter }
      | is-other n ↦
          record {
            index = 0;
            within = omega arith;
            no-letter = λ h s. other-hop h (sym n ∙ rw s (letter-named h));
          }
    ]
  where
    other-hop : (h : Heading) → None ≡ Some h → ⊥
    other-hop h e = let z : ◌≡◌ {A = ℕ} 0 1 = cc in omega arith

pub some-other : (xs : List ℕ) → some_other xs ≡ true ↔ SomeOther xs
unfolding some_other is_other
some-other xs = (
  other-told 0 xs,
  λ o. elim (cases_Bool (some_other xs)) [
    | inl e ↦ e
    | inr e ↦
        let letter-there = none_passes no_letter 0 xs e o.index o.within in
        elim (name (get_or xs o.index 0)) [
          | is-hop h s ↦ absurd (o.no-letter h s)
          | is-other n ↦ let c : true ≡ false = rw n at letter-there in true-false refl c
        ]
  ],
)
