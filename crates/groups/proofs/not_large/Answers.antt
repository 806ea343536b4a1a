-- By the number. Assumes nothing.
use Rattle.groups.proofs.Reading.{bounded-large, bounded-value}
use Rattle.groups.proofs.not_large.Goals as goal

pub returns-then-number-gt65535 : goal.returns-then-number-gt65535
returns-then-number-gt65535 c = bounded-large c.if-number-gt65535.true

pub returns-else-number-gt65535 : goal.returns-else-number-gt65535
returns-else-number-gt65535 c = bounded-value c.if-number-gt65535.false
