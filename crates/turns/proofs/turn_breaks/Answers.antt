-- The number of the rule, as the rule. Assumes nothing.
use Rattle.std.proofs.Common.{◌∙◌}
use Rattle.turns.proofs.Arithmetic.{rule_told}
use Rattle.turns.proofs.turn_breaks.Goals as goal

pub returns : goal.returns
returns c =
    c.rule_of.ensures ∙
    rule_told _ _ _ _ c.code.ensures c.code-2.ensures c.remainder.ensures c.broken_rule.ensures
