-- The numbers before index i are copied, and it is known whether one of them changed. Assumes nothing.
use Rattle.rounds.proofs.Copy.{copied_none}
use Rattle.rounds.proofs.copy_part.Goals as goal

pub loop-i-init : goal.loop-i-init
loop-i-init c = copied_none _ _ _
