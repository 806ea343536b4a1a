-- Nothing said, nothing put. Assumes nothing.
use Rattle.std.proofs.Common.{arith}
use Rattle.buffers.proofs.Over.{puts-nothing}
use Rattle.sheet_lines.proofs.tell.Goals as goal

pub returns-in-Nothing : goal.returns-in-Nothing
returns-in-Nothing c = rw c.in-Nothing.is (puts-nothing _ _ (omega arith))
