-- A run of equal letters is a leg. Assumes nothing.
use Rattle.std.proofs.Common.{◌≡◌, ◌≢◌, ℕ, zero, suc, ◌-◌, ◌<◌, Bool, true, false, ◌||◌, List, [], ◌∷◌, ◌++◌, length, get_or, drop, replicate, fold, Some, refl, sym, ◌∙◌, arith, drop-cons}
use mathlib.Core.Logic.{inl, inr}
use mathlib.Core.Bool.{or_assoc, or-false}
use native.Mathlib.Decide.{dec_lt}
use lib.ListN.{drop_of_length-le}
use Rattle.mesh.specs.declared.Heading.{Heading}
use Rattle.mesh.specs.Headings.{letter, same, named}
use Rattle.mesh.specs.Maps.{some}
use Rattle.mesh.proofs.Bools.{value, true-false}
use Rattle.mesh.proofs.Some.{none_passes}
use Rattle.mesh.proofs.Headings.{letter-named, is-hop, is-other, name, same-heading}
use Rattle.runs.specs.Equal.{Run}
use Rattle.theory_legs.specs.Legs.{Leg, leg, legs}
use Rattle.theory_legs.specs.Converting.{hop_by, hops_named, is_other, no_letter, some_other}
use Rattle.theory_legs.specs.Claims.{Straight}
use Rattle.theory_legs.proofs.Legs.{legs-run, turn-straight}

-- the legs of the letters from index i on
unfoldable pub legs_from : List ℕ → ℕ → List Leg
legs_from xs i = legs (hops_named (drop i xs))

-- all letters looked at, from any index on
gathered-from : (i : ℕ) (b : Bool) (xs : List ℕ) → fold (λ other x. other || is_other (named x)) b xs ≡ b || some no_letter i xs
unfolding some
gathered-from i b [] = sym (or-false b)
gathered-from i b (x ∷ xs) = gathered-from (suc i) (b || is_other (named x)) xs ∙ or_assoc b (is_other (named x)) (some no_letter (suc i) xs)

pub gathered-other : (xs : List ℕ) → fold (λ other x. other || is_other (named x)) false xs ≡ some_other xs
unfolding some_other
gathered-other xs = gathered-from 0 false xs

-- where all are letters, the one at index i is that of a heading
pub record LetterAt (xs : List ℕ) (i : ℕ) : Type 0 where
  pub heading : Heading
  pub is-letter : get_or xs i 0 ≡ letter heading

pub letter_at : (xs : List ℕ) (i : ℕ) → some_other xs ≡ false → i < length xs → LetterAt xs i
unfolding some_other is_other
letter_at xs i e h =
    elim (name (get_or xs i 0)) [
      | is-hop g s ↦ record { heading = g; is-letter = s }
      | is-other n ↦
          let passes = none_passes no_letter 0 xs e i h in
          let c : true ≡ false = rw n at passes in
          true-false refl c
    ]

hops-run : (n : ℕ) (h : Heading) (ys : List ℕ) → hops_named (replicate n (letter h) ++ ys) ≡ replicate n h ++ hops_named ys
unfolding hops_named hop_by
hops-run zero h ys = refl
hops-run (suc n) h ys = rw (letter-named h, hops-run n h ys)

-- after a run of h comes another letter
turned : (h : Heading) (y : ℕ) (ys : List ℕ) → y ≢ letter h → Straight (Some h) (legs (hops_named (y ∷ ys)))
unfolding hops_named hop_by legs Straight
turned h y ys d =
    elim (name y) [
      | is-hop g s ↦
          rw (s, letter-named g)
          (elim (value (same h g)) [
            | inl t ↦ absurd (d (s ∙ rw (same-heading h g t)))
            | inr t ↦ turn-straight h g (hops_named ys) t
          ])
      | is-other n ↦ rw n tt
    ]

module _ (xs : List ℕ) (i j : ℕ) (at : LetterAt xs i) (r : Run xs i j) where
  -- what comes after a run
  after_run : Straight (Some at.heading) (legs_from xs j)
  unfolding legs_from hops_named legs Straight
  after_run =
      elim (dec_lt j (length xs)) [
        | yes l ↦ rw (drop-cons xs j 0 l) (turned at.heading (get_or xs j 0) (drop (suc j) xs) (λ e. r.ends l (e ∙ sym at.is-letter)))
        | no l ↦ rw (drop_of_length-le xs {i = j} (omega arith)) tt
      ]

  pub run-leg : legs_from xs i ≡ leg at.heading (j - i) ∷ legs_from xs j
  unfolding legs_from
  run-leg =
      let size : j - i ≡ suc (j - i - 1) = omega (arith, r.begun) in
      rw (r.run, at.is-letter, hops-run (j - i) at.heading (drop j xs), size)
      (legs-run (j - i - 1) at.heading (hops_named (drop j xs)) after_run)
