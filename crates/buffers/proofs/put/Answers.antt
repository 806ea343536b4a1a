-- The bytes are copied over a part of the buffer. Assumes nothing.
use Rattle.std.proofs.Common.{arith}
use Rattle.buffers.proofs.Copy.{puts-part}
use Rattle.buffers.proofs.put.Goals as goal

pub returns : goal.returns
returns c = puts-part _ _ _ c.copy_from_slice.ensures.after (omega arith) (omega arith)
