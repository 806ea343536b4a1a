use Rattle.std.proofs.Common.{◌-◌}
use Rattle.boxing.proofs.Steps.{Along}
use Rattle.boxing.proofs.merge_row.Given as goal

abbrev pub invariant-loop-step : goal.invariant-loop-step
invariant-loop-step l = Along l.nodes l.r.0 l.initial.list l.fn.n l.step l.list

abbrev pub decreases-loop-step : goal.decreases-loop-step
decreases-loop-step l = l.end - l.step.next
