use Rattle.std.proofs.Common.{◌-◌}
use Rattle.to_legs.proofs.Measuring.{Measuring}
use Rattle.to_legs.proofs.measure_legs.Given as goal

abbrev pub invariant-loop-i : goal.invariant-loop-i
invariant-loop-i l = Measuring l.letters l.n l.i l.legs l.bytes

abbrev pub decreases-loop-i : goal.decreases-loop-i
decreases-loop-i l = l.n - l.i
