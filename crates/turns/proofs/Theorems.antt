-- What is shown of the turn test by arithmetic. Assumes nothing.
use mathlib.Core.Path.{◌≡◌, refl, ◌∙◌}
use mathlib.Core.Bool.{Bool, true}
use Prim.Native.Nat.{ℕ, ◌<◌}
use borrow.Author.Tests.{eqb-true}
use lib.Dec.{eqb}
use Rattle.mesh.specs.declared.Heading.{Heading}
use Rattle.mesh.specs.declared.Network.{Network}
use Rattle.mesh.specs.Headings.{same, code, direction}
use Rattle.mesh.specs.Parity.{remainder, permits_west, turns_west}
use Rattle.mesh.specs.Turns.{breaks, turn_breaks, reverses}
use Rattle.mesh.proofs.Headings.{code-few}
use Rattle.mesh.proofs.Parity.{remainder-few}
use Rattle.turns.specs.Arithmetic.{rule_number, broken_rule, quarter_turns, formula, is_right, every, right}
use Rattle.turns.proofs.Arithmetic.{every_one, rule-of-turn, back-reverses}

-- the formula is right for each pair of codes and each remainder: one computation over all 32
pub all_right : right ≡ true
unfolding right every formula broken_rule turn_breaks breaks same direction
all_right = refl

-- so for every pair of codes and both remainders
pub formula-of-codes : (a b p : ℕ) → (a < 4) × (b < 4) × (p < 2) → formula a b p ≡ broken_rule a b p
unfolding right
formula-of-codes a b p few =
    let of-a = every_one 4 (λ x. every 4 (λ y. every 2 (is_right x y))) all_right a few.0 in
    let of-b = every_one 4 (λ y. every 2 (is_right a y)) of-a b few.1 in
    eqb-true _ _ (every_one 2 (is_right a b) of-b p few.2)

-- and for all headings and columns, whichever columns permit NW and SW, with a remainder that says so
pub formula-of-turns : (west : ℕ → Bool) (c p : ℕ) → p < 2 → west c ≡ permits_west p → (g h : Heading) →
    formula (code g) (code h) p ≡ rule_number (turn_breaks west c g h)
formula-of-turns west c p few e g h =
    formula-of-codes (code g) (code h) p (code-few g, code-few h, few) ∙ rule-of-turn west c p e g h

-- so with the column's remainder by 2, on the second network the other one
pub turn-by-arithmetic : (network : Network) (c : ℕ) (g h : Heading) →
    formula (code g) (code h) (remainder network c) ≡ rule_number (turn_breaks (turns_west network) c g h)
unfolding turns_west
turn-by-arithmetic network c g h = formula-of-turns (turns_west network) c (remainder network c) (remainder-few network c) refl g h

-- two quarter turns are a reversal, and no others are
pub back-is-reversal : (g h : Heading) → eqb (quarter_turns (code g) (code h)) 2 ≡ reverses g h
back-is-reversal = back-reverses
