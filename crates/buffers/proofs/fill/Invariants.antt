use Rattle.std.proofs.Common.{◌≡◌, ◌-◌}
use lib.ListN.{replicate}
use Rattle.buffers.specs.Over.{over}
use Rattle.buffers.proofs.fill.Given as goal

abbrev pub invariant-loop-i : goal.invariant-loop-i
invariant-loop-i l = l.out ≡ over l.initial.out l.at (replicate (l.i - l.at) l.byte)
