-- By what the groups above come to. Assumes nothing.
use Rattle.groups.proofs.Reading.{joined-needless, joined-value}
use Rattle.groups.proofs.above.Goals as goal

pub returns-then-n-eq0 : goal.returns-then-n-eq0
returns-then-n-eq0 c = joined-needless _ c.if-n-eq0.true

pub returns-else-n-eq0 : goal.returns-else-n-eq0
returns-else-n-eq0 c = joined-value _ _ _ c.if-n-eq0.false
