-- Where there is room the first number is replaced; an empty list stays as it is. Assumes nothing.
use Rattle.std.proofs.Common.{arith}
use Rattle.buffers.proofs.First.{put, no_room}
use Rattle.buffers.proofs.put_first.Goals as goal

pub returns-in-Some : goal.returns-in-Some
returns-in-Some c = put _ _ (omega (arith, c.in-Some.ensures.item))

pub returns-in_default : goal.returns-in_default
returns-in_default c = no_room _ _ (omega (arith, c.in_default.ensures.item))
