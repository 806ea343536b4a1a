-- A single letter of a hand-in: what is wrong with it. Assumes nothing.
use Rattle.std.proofs.Common.{Option, Some, None, ◌≡◌, refl, ◌↔◌, ◌≢◌, inl, inr, Bool, true, false, not, cond, ◌&&◌, ℕ, suc, pred, arith}
use Rattle.std.proofs.lemmas.Bool.{cases_Bool}
use Rattle.mesh.specs.declared.TurnRule.{TurnRule}
use Rattle.mesh.specs.declared.TurnRule.TheVariants.{Rule1, Rule2}
use Rattle.mesh.specs.declared.Heading.{Heading}
use Rattle.mesh.specs.Headings.{letter, named}
use Rattle.mesh.specs.Tests.{first}
use Rattle.mesh.specs.Turns.{hop_breaks, is_rule1, is_rule2, forbidden, turns_back, may_turn}
use Rattle.mesh.specs.Rules.{Trip, blocked}
use Rattle.mesh.specs.Hops.{At, stays, lawful}
use Rattle.mesh.specs.Judging.{hop_tests, letter_mistake}
use Rattle.mesh.proofs.Bools.{true-false}
use Rattle.mesh.proofs.Headings.{letter-named, is-hop, is-other, name}
use Rattle.theory_judging.specs.Claims.{NotLawful, no-letter, unlawful}

-- the tests of a hop in their order, against the order of the definition of lawful
unfoldable pub mistake : Bool → Bool → Option TurnRule → Bool → ℕ
mistake s v x b = cond (not s) 12 (cond v 13 (cond (is_rule1 x) 14 (cond (is_rule2 x) 17 (cond b 15 0))))

neither : (k : ℕ) → suc k ≡ 0 ↔ false ≡ true
neither k = (λ e. absurd (omega arith), λ e. true-false e refl)

mistake-none : (s v : Bool) (x : Option TurnRule) (b : Bool) → mistake s v x b ≡ 0 ↔ s && (not b && (not v && not (forbidden x))) ≡ true
unfolding mistake
mistake-none false v x b = neither 11
mistake-none true true x true = neither 12
mistake-none true true x false = neither 12
mistake-none true false (Some Rule1) true = neither 13
mistake-none true false (Some Rule1) false = neither 13
mistake-none true false (Some Rule2) true = neither 16
mistake-none true false (Some Rule2) false = neither 16
mistake-none true false None true = neither 14
mistake-none true false None false = (λ e. refl, λ e. refl)

module _ (t : Trip) (p : At) where
  pub no-mistake-lawful : (h : Heading) → letter_mistake t p (Some h) ≡ 0 ↔ lawful t p h ≡ true
  unfolding letter_mistake hop_tests first lawful may_turn mistake
  no-mistake-lawful h =
      mistake-none
      (stays t.columns t.rows h p.row p.column)
      (turns_back p.last h)
      (hop_breaks t.west p.column p.last h)
      (blocked t h 1 p.row p.column)

  -- a letter is a lawful hop, or it is not and has a mistake
  pub data Examined (x : ℕ) : Type 0 where
    good : (h : Heading) → x ≡ letter h → lawful t p h ≡ true → Examined x
    mistaken : (k : ℕ) → letter_mistake t p (named x) ≡ suc k → NotLawful t p x → Examined x

  pub examine : (x : ℕ) → Examined x
  unfolding letter_mistake
  examine x =
      elim (name x) [
        | is-other e ↦ mistaken 10 (rw e) (no-letter e)
        | is-hop h e ↦
            elim (cases_Bool (lawful t p h)) [
              | inl l ↦ good h e l
              | inr l ↦
                  let n : named x ≡ Some h = rw e (letter-named h) in
                  let some : letter_mistake t p (Some h) ≢ 0 = λ z. true-false ((no-mistake-lawful h).0 z) l in
                  mistaken (pred (letter_mistake t p (Some h))) (rw n (omega arith)) (unlawful h n l)
            ]
      ]
