-- Each heading has its case in the definition; nothing lies beyond row 0 or column 0. Assumes nothing.
use Rattle.std.proofs.Common.{◌∙◌}
use borrow.Author.Tests.{lt-leb}
use Rattle.nodes.proofs.Lookup.{ahead-east, ahead-north, ahead-south, ahead-west, ahead-off-south, ahead-off-west}
use Rattle.nodes.proofs.Nodes.is_bad_ahead.Goals as goal

pub returns-in-East : goal.returns-in-East
returns-in-East c = ahead-east _ _ _ _ c.in-East.is c.is_bad.ensures

pub returns-in-North : goal.returns-in-North
returns-in-North c = ahead-north _ _ _ _ c.in-North.is c.is_bad-in-North.ensures

pub returns-then-k-row : goal.returns-then-k-row
returns-then-k-row c = ahead-south _ _ _ _ c.in-South.is c.if-k-row.true c.is_bad-then-k-row.ensures

pub returns-else-k-row : goal.returns-else-k-row
returns-else-k-row c = lt-leb _ _ c.if-k-row.false ∙ ahead-off-south _ _ _ _ c.in-South.is c.if-k-row.false

pub returns-then-k-column : goal.returns-then-k-column
returns-then-k-column c = ahead-west _ _ _ _ c.in-West.is c.if-k-column.true c.is_bad-then-k-column.ensures

pub returns-else-k-column : goal.returns-else-k-column
returns-else-k-column c = lt-leb _ _ c.if-k-column.false ∙ ahead-off-west _ _ _ _ c.in-West.is c.if-k-column.false
