-- Laws of the turn test by arithmetic. Assumes nothing.
use Rattle.std.specs.Prelude.{Option, Some, None}
use Rattle.mesh.specs.declared.TurnRule.{TurnRule}
use mathlib.Core.Path.{◌≡◌, refl}
use mathlib.Core.Bool.{Bool, true}
use Prim.Native.Nat.{ℕ, zero, suc, ◌+◌, ◌*◌, ◌≤◌, ◌<◌}
use native.Mathlib.Nat.{mul-le-mul}
use native.Mathlib.Numerals.{add-one}
use native.Mathlib.Omega.{arith}
use borrow.Author.Count.{below_more}
use lib.Dec.{eqb}
use Rattle.mesh.specs.declared.TurnRule.TheVariants.{Rule1, Rule2}
use Rattle.mesh.specs.declared.Heading.{Heading}
use Rattle.mesh.specs.declared.Heading.TheVariants.{East as E, North as N, South as S, West as W}
use Rattle.mesh.specs.declared.Network.{Network}
use Rattle.mesh.specs.Headings.{opposite, same, code, direction}
use Rattle.mesh.specs.Parity.{remainder, permits_west, turns_west}
use Rattle.mesh.specs.Turns.{breaks, turn_breaks, reverses}
use Rattle.mesh.proofs.Bools.{and_both}
use Rattle.mesh.proofs.Headings.{direction-of-code}
use Rattle.turns.specs.Arithmetic.{rule_number, rule_of, broken_rule, quarter_turns, every}

pub every_one : (n : ℕ) (t : ℕ → Bool) → every n t ≡ true → (k : ℕ) → k < n → t k ≡ true
unfolding every
every_one zero t e k h = absurd (omega arith)
every_one (suc n) t e k h =
    let both : (t n ≡ true) × (every n t ≡ true) = and_both e in
    below_more (λ j. t j ≡ true) n (every_one n t both.1) both.0 k (rw add-one h)

pub rule-of-number : (x : Option TurnRule) → rule_of (rule_number x) ≡ x
unfolding rule_of
rule-of-number None = refl
rule-of-number (Some Rule1) = refl
rule-of-number (Some Rule2) = refl

-- a rule looks at the kind of the column alone
pub rule-of-turn : (west : ℕ → Bool) (c p : ℕ) → west c ≡ permits_west p → (g h : Heading) →
    broken_rule (code g) (code h) p ≡ rule_number (turn_breaks west c g h)
unfolding broken_rule turn_breaks breaks
rule-of-turn west c p e g h = rw (e, direction-of-code g, direction-of-code h)

-- so the number of the rule tells it
pub rule_told : (network : Network) (g h : Heading) (c : ℕ) {a b p n : ℕ} →
    a ≡ code g → b ≡ code h → p ≡ remainder network c → n ≡ broken_rule a b p → rule_of n ≡ turn_breaks (turns_west network) c g h
unfolding turns_west
rule_told network g h c is-a is_b is-p e =
    rw (e, is-a, is_b, is-p, rule-of-turn (turns_west network) c (remainder network c) refl g h) (rule-of-number (turn_breaks (turns_west network) c g h))

-- two quarter turns are a reversal
pub back-reverses : (g h : Heading) → eqb (quarter_turns (code g) (code h)) 2 ≡ reverses g h
unfolding reverses opposite same
back-reverses E E = refl
back-reverses E N = refl
back-reverses E S = refl
back-reverses E W = refl
back-reverses N E = refl
back-reverses N N = refl
back-reverses N S = refl
back-reverses N W = refl
back-reverses S E = refl
back-reverses S N = refl
back-reverses S S = refl
back-reverses S W = refl
back-reverses W E = refl
back-reverses W N = refl
back-reverses W S = refl
back-reverses W W = refl

-- the numbers of the formula are small
number-few : (x : Option TurnRule) → rule_number x ≤ 2
number-few None = omega arith
number-few (Some Rule1) = omega arith
number-few (Some Rule2) = omega arith

pub rule-few : (a b p : ℕ) → broken_rule a b p ≤ 2
unfolding broken_rule
rule-few a b p = number-few (turn_breaks permits_west p (direction a) (direction b))

pub about-few : {a b p t : ℕ} → (a < 4) × (b < 4) × (p < 2) → t ≡ quarter_turns a b → p * (t + 2) ≤ 5
about-few few e = mul-le-mul {n₂ = 1} {m₂ = 5} (omega (arith, few.2)) (omega (arith, e))
