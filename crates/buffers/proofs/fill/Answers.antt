-- As many bytes as there is room for are written one by one. Assumes nothing.
use Rattle.std.proofs.Common.{arith, ◌∙◌}
use Rattle.buffers.proofs.Repeat.{over-beyond, over-cut, filling_none, filling-more}
use Rattle.buffers.proofs.fill.Goals as goal

pub loop-i-init : goal.loop-i-init
loop-i-init c = filling_none _ _ _

pub loop-i-preserved : goal.loop-i-preserved
loop-i-preserved c = filling-more _ _ _ _ (omega arith) c.loop-i.invariant

pub returns-after-loop-i : goal.returns-after-loop-i
returns-after-loop-i c = c.loop-i.invariant ∙ over-cut _ _ _ _ _ (omega arith) (omega arith)

pub returns-else-at-out : goal.returns-else-at-out
returns-else-at-out c = over-beyond _ _ _ c.if-at-out.false
