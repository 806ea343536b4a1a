-- The faults of the row before the step's next index are merged. Assumes nothing.
use Rattle.boxing.proofs.Steps.{along-none, along-ready, along-more, along-all}
use Rattle.boxing.proofs.merge_row.Goals as goal

pub loop-step-init : goal.loop-step-init
loop-step-init c = rw (← c.nodes.view_is) (along-none (rw (← c.nodes.view_is) at c.requires.1))

pub merge_node-step-requires : goal.merge_node-step-requires
merge_node-step-requires c = let (on, ready) = c.requires in along-ready ready c.loop-step.invariant on (rw (← c.nodes.view_is) c.loop-step-test.true)

pub loop-step-preserved : goal.loop-step-preserved
loop-step-preserved c = along-more c.requires.1 c.loop-step.invariant c.merge_node-step.ensures

pub returns : goal.returns
returns c = along-all c.requires.1 c.loop-step.invariant (rw (← c.nodes.view_is) c.loop-step-test.false)
