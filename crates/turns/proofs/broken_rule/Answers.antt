-- The body is the formula, which is right for all codes; its numbers are small. Assumes nothing.
use Rattle.turns.specs.Arithmetic.{formula}
use Rattle.turns.proofs.Theorems.{formula-of-codes}
use Rattle.turns.proofs.broken_rule.Goals as goal

pub returns : goal.returns
unfolding formula
returns c = rw c.quarter_turns-turn.ensures (formula-of-codes _ _ _ c.requires)
