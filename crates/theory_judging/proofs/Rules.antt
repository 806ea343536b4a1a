-- Which rule a hop breaks, and that judging tells it. Assumes nothing.
use Rattle.std.proofs.Common.{Option, Some, None, ◌≡◌, refl, sym, ◌∙◌, ◌↔◌, ◌≢◌, inl, inr, Bool, true, false, cond, List, ℕ, ◌<◌, arith, eqb, length, get_or}
use Rattle.std.proofs.lemmas.Bool.{cases_Bool}
use Rattle.mesh.specs.declared.TurnRule.{TurnRule}
use Rattle.mesh.specs.declared.TurnRule.TheVariants.{Rule1, Rule2}
use Rattle.mesh.specs.declared.Heading.{Heading}
use Rattle.mesh.specs.declared.Heading.TheVariants.{East as E, North as N, South as S, West as W}
use Rattle.mesh.specs.declared.Mistake.TheVariants.{BreaksRule1, BreaksRule2}
use Rattle.mesh.specs.Headings.{opposite, same, named}
use Rattle.mesh.specs.Tests.{first}
use Rattle.mesh.specs.Numbers.{mistake_number}
use Rattle.mesh.specs.Turns.{breaks, turn_breaks, hop_breaks, reverses, turns_back}
use Rattle.mesh.specs.Rules.{Trip, blocked}
use Rattle.mesh.specs.Hops.{At, stays, lawful}
use Rattle.mesh.specs.Judging.{hop_tests, letter_mistake}
use Rattle.mesh.proofs.Bools.{true-false}
use Rattle.mesh.proofs.Headings.{letter-named, is-hop, is-other, name}
use Rattle.theory_judging.specs.Claims.{unlawful, WentWrong, at-letter, at-end, BreaksRule, EN, NW, ES, SW, LetterBreaks, LawfulUpTo, FailedAt, BrokeRuleAt}
use Rattle.theory_judging.proofs.Letters.{mistake, no-mistake-lawful}

-- the number by which a broken rule is told, and the rule that a number tells of
abbrev pub told : Option TurnRule → ℕ
told None = 0
told (Some Rule1) = mistake_number BreaksRule1
told (Some Rule2) = mistake_number BreaksRule2

abbrev rule_of : ℕ → Option TurnRule
rule_of k = cond (eqb k (told (Some Rule1))) (Some Rule1) (cond (eqb k (told (Some Rule2))) (Some Rule2) None)

told-rule : (r : Option TurnRule) → rule_of (told r) ≡ r
told-rule None = refl
told-rule (Some Rule1) = refl
told-rule (Some Rule2) = refl

tells-some : (r : Option TurnRule) {k : ℕ} → 0 < told r → told r ≡ k → rule_of k ≢ None
tells-some r some e z =
    let None : rule_of (told r) ≡ None = rw e z in
    let zero : told r ≡ 0 = rw (sym (told-rule r) ∙ None) in
    absurd (omega (arith, some))

module _ (west : ℕ → Bool) (c : ℕ) where
  pub rule-is : {r : Option TurnRule} {l : Option Heading} {h : Heading} → BreaksRule west c r l h → hop_breaks west c l h ≡ r
  unfolding hop_breaks turn_breaks breaks same
  rule-is (EN e) = rw e
  rule-is (NW e) = rw e
  rule-is (ES e) = rw e
  rule-is (SW e) = rw e

  -- a hop breaks no rule, or makes a turn of the one it breaks
  data Turned (l : Option Heading) (h : Heading) : Type 0 where
    keeps : hop_breaks west c l h ≡ None → Turned l h
    broke : (r : Option TurnRule) → BreaksRule west c r l h → Turned l h

  turned : (l : Option Heading) (h : Heading) → Turned l h
  unfolding hop_breaks turn_breaks breaks same
  turned None h = keeps refl
  turned (Some E) E = keeps refl
  turned (Some E) N = elim (cases_Bool (west c)) [ inl e ↦ broke (Some Rule1) (EN e) | inr e ↦ keeps (rw e) ]
  turned (Some E) S = elim (cases_Bool (west c)) [ inl e ↦ broke (Some Rule2) (ES e) | inr e ↦ keeps (rw e) ]
  turned (Some E) W = keeps refl
  turned (Some N) E = keeps refl
  turned (Some N) N = keeps refl
  turned (Some N) S = keeps refl
  turned (Some N) W = elim (cases_Bool (west c)) [ inl e ↦ keeps (rw e) | inr e ↦ broke (Some Rule1) (NW e) ]
  turned (Some S) E = keeps refl
  turned (Some S) N = keeps refl
  turned (Some S) S = keeps refl
  turned (Some S) W = elim (cases_Bool (west c)) [ inl e ↦ keeps (rw e) | inr e ↦ broke (Some Rule2) (SW e) ]
  turned (Some W) h = keeps refl

  rule-turn : {r : Option TurnRule} {l : Option Heading} {h : Heading} → 0 < told r → hop_breaks west c l h ≡ r → BreaksRule west c r l h
  rule-turn {r} {l} {h} some e =
      elim (turned l h) [
        | keeps k ↦ let n : told r ≡ 0 = rw (sym e ∙ k) in absurd (omega (arith, some))
        | broke s b ↦ let same : s ≡ r = sym (rule-is b) ∙ e in rw (← same) b
      ]

  pub broken-is-rule : (r : Option TurnRule) → 0 < told r → (l : Option Heading) (h : Heading) → hop_breaks west c l h ≡ r ↔ BreaksRule west c r l h
  broken-is-rule r some l h = (rule-turn some, rule-is)

  -- a hop that breaks a rule is no reversal
  rule-ahead : {r : Option TurnRule} {l : Option Heading} {h : Heading} → BreaksRule west c r l h → turns_back l h ≡ false
  unfolding turns_back reverses opposite same
  rule-ahead (EN e) = refl
  rule-ahead (NW e) = refl
  rule-ahead (ES e) = refl
  rule-ahead (SW e) = refl

  pub reversal-keeps : (l : Option Heading) (h : Heading) → turns_back l h ≡ true → hop_breaks west c l h ≡ None
  reversal-keeps l h e = elim (turned l h) [ keeps k ↦ k | broke r b ↦ true-false e (rule-ahead b) ]

-- the tests tell of a rule exactly if the hop stays on the mesh and breaks it
tells : (s v : Bool) (x : Option TurnRule) (b : Bool) → rule_of (mistake s v x b) ≢ None → (s ≡ true) × (x ≡ rule_of (mistake s v x b))
unfolding mistake
tells false v x b some = absurd (some refl)
tells true true x b some = absurd (some refl)
tells true false None true some = absurd (some refl)
tells true false None false some = absurd (some refl)
tells true false (Some Rule1) b some = (refl, refl)
tells true false (Some Rule2) b some = (refl, refl)

told-by : (r : Option TurnRule) (b : Bool) → 0 < told r → mistake true false r b ≡ told r
unfolding mistake
told-by None b some = absurd (omega arith)
told-by (Some Rule1) b some = refl
told-by (Some Rule2) b some = refl

module _ (t : Trip) (q : At) (xs : List ℕ) (n : ℕ) (r : Option TurnRule) (some : 0 < told r) where
  tests-tell : (h : Heading) → rule_of (letter_mistake t q (Some h)) ≢ None →
      (stays t.columns t.rows h q.row q.column ≡ true) × (hop_breaks t.west q.column q.last h ≡ rule_of (letter_mistake t q (Some h)))
  unfolding letter_mistake hop_tests first mistake
  tests-tell h =
      tells
      (stays t.columns t.rows h q.row q.column)
      (turns_back q.last h)
      (hop_breaks t.west q.column q.last h)
      (blocked t h 1 q.row q.column)

  letter-told : (h : Heading) → stays t.columns t.rows h q.row q.column ≡ true →
      BreaksRule t.west q.column r q.last h → letter_mistake t q (Some h) ≡ told r
  unfolding letter_mistake hop_tests first mistake
  letter-told h s b =
      rw (s, rule-ahead _ _ b, rule-is _ _ b) (told-by r (blocked t h 1 q.row q.column) some)

  at-hop : (h : Heading) → n < length xs → named (get_or xs n 0) ≡ Some h → told r ≡ letter_mistake t q (named (get_or xs n 0)) → LetterBreaks t q xs n r
  at-hop h l s e =
      let m : told r ≡ letter_mistake t q (Some h) = rw (← s) e in
      let (on, b) = tests-tell h (tells-some r some m) in
      record { there = l; hop = h; spelled = s; on-mesh = on; broken = rule-turn _ _ some (b ∙ rw (← m) (told-rule r)) }

  wrong-rule : WentWrong t q xs n (told r) → LetterBreaks t q xs n r
  unfolding letter_mistake
  wrong-rule (at-end l a e) = absurd (tells-some r some e refl)
  wrong-rule (at-letter l u e) =
      elim (name (get_or xs n 0)) [
        | is-other o ↦ let other : told r ≡ 11 = e ∙ rw o in absurd (tells-some r some other refl)
        | is-hop h s ↦ at-hop h l (rw s (letter-named h)) e
      ]

  rule-wrong : LetterBreaks t q xs n r → WentWrong t q xs n (told r)
  rule-wrong f =
      let h = f.hop in
      let e : letter_mistake t q (Some h) ≡ told r = letter-told h f.on-mesh f.broken in
      let no : lawful t q h ≡ false = not-lawful h e in
      at-letter f.there (unlawful h f.spelled no) (rw f.spelled (sym e))
    where
      not-lawful : (h : Heading) → letter_mistake t q (Some h) ≡ told r → lawful t q h ≡ false
      not-lawful h e =
          elim (cases_Bool (lawful t q h)) [ inl l ↦ absurd (omega (arith, some, e, (no-mistake-lawful t q h).1 l)) | inr l ↦ l ]

-- a hand-in
module _ (t : Trip) (p : At) (i : ℕ) (xs : List ℕ) (j : ℕ) where
  instead : {P Q : At → ℕ → Type 0} → ((q : At) (n : ℕ) → P q n → Q q n) → LawfulUpTo t p i xs j P → LawfulUpTo t p i xs j Q
  instead f u =
      record { hops = u.hops; begun = u.begun; spelled = u.spelled; hops-lawful = u.hops-lawful; wrong = f _ _ u.wrong }

  pub failed-is-rule : (r : Option TurnRule) → 0 < told r → FailedAt t p i xs (told r) j ↔ BrokeRuleAt t p i xs r j
  failed-is-rule r some = (instead (λ q n. wrong-rule t q xs n r some), instead (λ q n. rule-wrong t q xs n r some))
