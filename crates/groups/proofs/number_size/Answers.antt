-- By its groups. Assumes nothing.
use Rattle.std.proofs.Common.{sym}
use Rattle.theory_legs.proofs.Groups.{size-one, size-two, size-three}
use Rattle.groups.proofs.number_size.Goals as goal

pub returns-then-n-lt128 : goal.returns-then-n-lt128
returns-then-n-lt128 c = sym (size-one _ c.if-n-lt128.true)

pub returns-then-n-lt16384 : goal.returns-then-n-lt16384
returns-then-n-lt16384 c = sym (size-two _ c.if-n-lt128.false c.if-n-lt16384.true)

pub returns-else-n-lt16384 : goal.returns-else-n-lt16384
returns-else-n-lt16384 c = sym (size-three _ c.if-n-lt16384.false)
