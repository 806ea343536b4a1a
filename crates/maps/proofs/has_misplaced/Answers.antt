-- No fault before index i is misplaced, so the rest decides. Assumes nothing.
use Rattle.std.proofs.Common.{sym, ◌∙◌}
use Rattle.mesh.specs.Maps.{misplaced}
use Rattle.mesh.proofs.Some.{looked-none, looked-here, looked-more, looked-all}
use Rattle.maps.proofs.has_misplaced.Goals as goal

pub loop-i-init : goal.loop-i-init
loop-i-init c = rw (← c.nodes.view_is) (looked-none _ (sym c.nodes.invariant.size))

pub returns-then-is_misplaced : goal.returns-then-is_misplaced
unfolding misplaced
returns-then-is_misplaced c = looked-here c.loop-i.invariant c.loop-i-test.true (sym c.is_misplaced.ensures ∙ c.if-is_misplaced.true)

pub loop-i-preserved : goal.loop-i-preserved
loop-i-preserved c = looked-more c.loop-i.invariant c.loop-i-test.true (sym c.is_misplaced.ensures ∙ c.if-is_misplaced.false)

pub returns : goal.returns
unfolding misplaced
returns c = looked-all c.loop-i.invariant c.loop-i-test.false
