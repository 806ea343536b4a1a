-- The code is the Gray code of the number, counted from 0. Assumes nothing.
use Rattle.headings.proofs.Numbers.{gray-code}
use Rattle.headings.proofs.code.Goals as goal

pub returns : goal.returns
returns c = rw c.from-n.ensures (gray-code c.args.h)
