use Rattle.std.proofs.Common.{◌-◌, length}
use Rattle.runs.specs.Equal.{Same}
use Rattle.runs.proofs.skip_blocks.Given as goal

abbrev pub invariant-loop-j : goal.invariant-loop-j
invariant-loop-j l = Same l.xs l.i l.j l.x

abbrev pub decreases-loop-j : goal.decreases-loop-j
decreases-loop-j l = length l.xs - l.j
