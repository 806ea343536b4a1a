-- When letters or a file are refused: each number by its condition. Assumes nothing.
use Rattle.std.proofs.Common.{◌≡◌, refl, sym, ◌∙◌, ◌⊎◌, inl, inr, ◌↔◌, Bool, true, false, cond, List, [], ◌∷◌, ℕ, zero, suc, ◌≤◌, ◌<◌, arith, ltb-true, ltb-false, lt-ltb, le-ltb, ltb, length, get_or}
use Rattle.std.proofs.lemmas.Bool.{cases_Bool, or_cases, or_parts}
use Rattle.mesh.specs.declared.Heading.TheVariants.{East as E}
use Rattle.mesh.specs.Tests.{Test, first}
use Rattle.mesh.proofs.Bools.{true-false}
use Rattle.mesh.proofs.Tests.{numbered, clear-before, clear_next}
use Rattle.theory_legs.specs.Legs.{Leg, leg}
use Rattle.theory_legs.specs.Converting.{refusal, some_other, some_long, too_long, letter_tests, legs_of, file_of}
use Rattle.theory_legs.specs.Claims.{SomeOther, SomeLong, RouteAccepted}
use Rattle.theory_legs.proofs.Letters.{some-other}

-- Either way

module _ (tests : List Test) (new out : List ℕ) where
  pub before-room : refusal tests new out ≡ 0 → first tests ≡ 0
  unfolding refusal
  before-room e = clear-before tests _ e

  module _ (n : numbered tests ≡ true) (clear : first tests ≡ 0) where
    pub room-lacks : length out < length new → refusal tests new out ≡ 10
    unfolding refusal first
    room-lacks h = clear_next tests _ n clear ∙ rw (lt-ltb (length out) (length new) h)

    pub room-enough : length new ≤ length out → refusal tests new out ≡ 0
    unfolding refusal first
    room-enough h = clear_next tests _ n clear ∙ rw (le-ltb (length out) (length new) h)

    pub room-only : refusal tests new out ≡ 10 → length out < length new
    unfolding refusal first
    room-only e = by (cases_Bool (ltb (length out) (length new))) (sym (clear_next tests _ n clear) ∙ e)
      where
        by : (ltb (length out) (length new) ≡ true) ⊎ (ltb (length out) (length new) ≡ false) →
            ◌≡◌ {A = ℕ} (cond (ltb (length out) (length new)) 10 0) 10 → length out < length new
        by (inl t) e = ltb-true _ _ t
        by (inr f) e = let z : ◌≡◌ {A = ℕ} 0 10 = rw f at e in absurd (omega arith)

-- A leg over 16,384

long-told : (ls : List Leg) → some_long ls ≡ true → SomeLong ls
unfolding some_long
long-told [] e = true-false e refl
long-told (l ∷ ls) e =
    elim (or_cases (ltb 16384 l.length) (some_long ls) e) [
      | inl h ↦ record { index = 0; within = omega arith; long = ltb-true 16384 l.length h }
      | inr h ↦
          let o = long-told ls h in
          record { index = suc o.index; within = omega (arith, o.within); long = o.long }
    ]

told-long : (ls : List Leg) → some_long ls ≡ false → (i : ℕ) → i < length ls → 16384 < (get_or ls i (leg E 0)).length → ⊥
unfolding some_long
told-long [] e i w h = omega arith
told-long (l ∷ ls) e zero w h =
    let short = ltb-false 16384 l.length (or_parts (ltb 16384 l.length) (some_long ls) e).0 in
    omega arith
told-long (l ∷ ls) e (suc i) w h =
    told-long ls (or_parts (ltb 16384 l.length) (some_long ls) e).1 i (omega arith) h

some-long : (ls : List Leg) → some_long ls ≡ true ↔ SomeLong ls
some-long ls = (
  long-told ls,
  λ o. elim (cases_Bool (some_long ls)) [
    | inl e ↦ e
    | inr e ↦ absurd (told-long ls e o.index o.within o.long)
  ],
)

too_long_lem : (ls : List Leg) → too_long ls ≡ true ↔ (SomeLong ls ⊎ (65535 < length ls))
unfolding too_long
too_long_lem ls = (
  λ e. elim (or_cases (some_long ls) (ltb 65535 (length ls)) e) [
    | inl h ↦ inl ((some-long ls).0 h)
    | inr h ↦ inr (ltb-true 65535 (length ls) h)
  ],
  λ o. elim o [
    | inl h ↦ rw ((some-long ls).1 h)
    | inr h ↦ elim (cases_Bool (some_long ls)) [ inl e ↦ rw e | inr e ↦ rw (e, lt-ltb 65535 (length ls) h) ]
  ],
)

-- Letters to legs

-- the three tests in their order
abbrev row : Bool → Bool → Bool → ℕ
row other long short = cond other 11 (cond long 23 (cond short 10 0))

row-11 : (a b c : Bool) → row a b c ≡ 11 → a ≡ true
row-11 true b c e = refl
row-11 false true c e = absurd (omega arith)
row-11 false false true e = absurd (omega arith)
row-11 false false false e = absurd (omega arith)

row-23 : (a b c : Bool) → row a b c ≡ 23 → (a ≡ false) × (b ≡ true)
row-23 true b c e = absurd (omega arith)
row-23 false true c e = (refl, refl)
row-23 false false true e = absurd (omega arith)
row-23 false false false e = absurd (omega arith)

row-later : (a b c : Bool) → row a b c ≤ 10 → (a ≡ false) × (b ≡ false)
row-later true b c e = absurd (omega arith)
row-later false true c e = absurd (omega arith)
row-later false false c e = (refl, refl)

module _ (xs : List ℕ) where
  pub letters-numbered : numbered (letter_tests xs) ≡ true
  unfolding numbered letter_tests
  letters-numbered = refl

  pub accepted-fits : RouteAccepted xs → (some_other xs ≡ false) × (too_long (legs_of xs) ≡ false)
  unfolding letter_tests first
  accepted-fits e = row-later (some_other xs) (too_long (legs_of xs)) false (omega (arith, e))

  pub fits-accepted : some_other xs ≡ false → too_long (legs_of xs) ≡ false → RouteAccepted xs
  unfolding letter_tests first
  fits-accepted e f = rw (e, f)

  module _ (out : List ℕ) where
    abbrev refuses : ℕ
    refuses = refusal (letter_tests xs) (file_of xs) out

    abbrev short : Bool
    short = ltb (length out) (length (file_of xs))

    in_row : refuses ≡ row (some_other xs) (too_long (legs_of xs)) short
    unfolding refusal letter_tests first
    in_row = refl

    pub refused-11 : refuses ≡ 11 ↔ SomeOther xs
    refused-11 = (
      λ e. (some-other xs).0 (row-11 (some_other xs) (too_long (legs_of xs)) short (sym in_row ∙ e)),
      λ o. in_row ∙ rw ((some-other xs).1 o),
    )

    pub refused-23 : refuses ≡ 23 ↔ ((SomeOther xs → ⊥) × (SomeLong (legs_of xs) ⊎ (65535 < length (legs_of xs))))
    refused-23 = (
      λ e.
          let t = row-23 (some_other xs) (too_long (legs_of xs)) short (sym in_row ∙ e) in
          (λ o. true-false ((some-other xs).1 o) t.0, (too_long_lem (legs_of xs)).0 t.1),
      λ h. in_row ∙ elim (cases_Bool (some_other xs)) [
        | inl o ↦ absurd (h.0 ((some-other xs).0 o))
        | inr o ↦ rw (o, (too_long_lem (legs_of xs)).1 h.1)
      ],
    )

    pub refused-10 : refuses ≡ 10 ↔ (RouteAccepted xs × (length out < length (file_of xs)))
    refused-10 = (
      λ e.
          let t = row-later (some_other xs) (too_long (legs_of xs)) short (omega (arith, in_row, e)) in
          let a = fits-accepted t.0 t.1 in
          (a, room-only (letter_tests xs) (file_of xs) out letters-numbered a e),
      λ h. room-lacks (letter_tests xs) (file_of xs) out letters-numbered h.0 h.1,
    )
