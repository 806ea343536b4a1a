-- From one fault to the next, until none is near. Assumes nothing.
use Rattle.faults.specs.Groups.{alone, more}
use Rattle.faults.proofs.group_end.Goals as goal

pub loop-next-init : goal.loop-next-init
loop-next-init c = alone c.requires.0

pub loop-next-preserved : goal.loop-next-preserved
loop-next-preserved c = more c.loop-next.invariant c.in-Some.ensures
