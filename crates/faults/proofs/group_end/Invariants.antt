use Rattle.std.proofs.Common.{◌-◌}
use Rattle.faults.specs.Groups.{Chain}
use Rattle.faults.proofs.group_end.Given as goal

abbrev pub invariant-loop-next : goal.invariant-loop-next
invariant-loop-next l = Chain l.map l.end l.i l.last

abbrev pub decreases-loop-next : goal.decreases-loop-next
decreases-loop-next l = l.end - l.last
