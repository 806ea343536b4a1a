-- One store writes one byte, and the index after it is still within the buffer or at its end. Assumes nothing.
use Rattle.buffers.proofs.Copy.{puts-byte}
use Rattle.buffers.proofs.put_byte.Goals as goal

pub returns : goal.returns
returns c = puts-byte _ _ _ c.requires
