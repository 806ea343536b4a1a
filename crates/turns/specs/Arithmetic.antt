-- The turn test by arithmetic (document 02, E5): a and b are the codes of the hops before and after (0 E, 1 N, 2 W, 3 S), p is the column's
-- remainder by 2. Assumes nothing.
use Rattle.mesh.specs.declared.TurnRule.{TurnRule}
use Rattle.std.specs.Prelude.{Bool, true, cond, ◌&&◌, ℕ, zero, suc, ◌+◌, ◌-◌, ◌*◌, ◌/◌, ◌%◌, eqb, Option, Some, None}
use Rattle.mesh.specs.declared.TurnRule.TheVariants.{Rule1, Rule2}
use Rattle.mesh.specs.Headings.{direction}
use Rattle.mesh.specs.Parity.{permits_west}
use Rattle.mesh.specs.Turns.{turn_breaks}

-- the number of the rule, 0 for neither
abbrev pub rule_number : Option TurnRule → ℕ
rule_number None = 0
rule_number (Some Rule1) = 1
rule_number (Some Rule2) = 2

-- the rule of that number
unfoldable pub rule_of : ℕ → Option TurnRule
rule_of n = cond (eqb n 0) None (cond (eqb n 1) (Some Rule1) (Some Rule2))

-- what is to be found: the rule that the turn breaks, by its number
unfoldable pub broken_rule : ℕ → ℕ → ℕ → ℕ
broken_rule a b p = rule_number (turn_breaks permits_west p (direction a) (direction b))

-- quarter turns to the left: 0 straight on, 1 left, 2 back, 3 right
abbrev pub quarter_turns : ℕ → ℕ → ℕ
quarter_turns a b = (b + 4 - a) % 4

-- the rule about such a turn: 1 for left, 2 for right, else 0
abbrev pub rule_about : ℕ → ℕ
rule_about turn = turn % 2 + turn / 3

-- the hop that is E if the turn is forbidden: in even columns the hop before, in odd ones the hop after, turned about
abbrev pub from : ℕ → ℕ → ℕ → ℕ
from a b p = (a + p * (quarter_turns a b + 2)) % 4

-- the formula: the rule about the turn, if that hop is E
unfoldable pub formula : ℕ → ℕ → ℕ → ℕ
formula a b p = rule_about (quarter_turns a b) * (1 / (1 + from a b p))

-- it gives that rule
abbrev pub is_right : ℕ → ℕ → ℕ → Bool
is_right a b p = eqb (formula a b p) (broken_rule a b p)

-- all numbers below n pass
unfoldable pub every : ℕ → (ℕ → Bool) → Bool
every zero t = true
every (suc n) t = t n && every n t

-- it does for each pair of codes and each remainder, 32 in all
unfoldable pub right : Bool
right = every 4 (λ a. every 4 (λ b. every 2 (is_right a b)))
