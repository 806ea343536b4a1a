-- By the length. Assumes nothing.
use Rattle.to_legs.proofs.Measuring.{size-one, size-two, size-three}
use Rattle.to_legs.proofs.leg_size.Goals as goal

pub returns-then-length-le32 : goal.returns-then-length-le32
returns-then-length-le32 c = size-one _ c.requires c.if-length-le32.true

pub returns-then-length-le4096 : goal.returns-then-length-le4096
returns-then-length-le4096 c = size-two _ c.if-length-le32.false c.if-length-le4096.true

pub returns-else-length-le4096 : goal.returns-else-length-le4096
returns-else-length-le4096 c = size-three _ c.if-length-le4096.false
