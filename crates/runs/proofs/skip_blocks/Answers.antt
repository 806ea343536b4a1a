-- The blocks are compared one by one. Assumes nothing.
use Rattle.std.proofs.Common.{arith, sym, ◌∙◌}
use Rattle.runs.proofs.Same.{same-on}
use Rattle.runs.proofs.Comparing.{folded-same}
use Rattle.runs.proofs.skip_blocks.Goals as goal

pub loop-j-preserved : goal.loop-j-preserved
loop-j-preserved c = same-on c.loop-j.invariant (folded-same _ _ _ _ (omega arith) (omega arith) (sym c.are_all.ensures ∙ c.if-are_all.true))
