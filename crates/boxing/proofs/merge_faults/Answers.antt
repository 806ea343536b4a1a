-- The faults of the rows before row r are merged. Assumes nothing.
use Rattle.std.proofs.Common.{arith}
use Rattle.boxing.proofs.Steps.{rows_none, row-ready, rows_more, rows_all}
use Rattle.boxing.proofs.merge_faults.Goals as goal

pub loop-r-init : goal.loop-r-init
loop-r-init c = rows_none c.requires

pub merge_row-n-requires : goal.merge_row-n-requires
merge_row-n-requires c = (rw (← c.nodes.view_is) c.loop-r-test.true, row-ready c.requires c.loop-r.invariant)

pub loop-r-preserved : goal.loop-r-preserved
loop-r-preserved c = rows_more c.requires c.loop-r.invariant c.merge_row-n.ensures

pub returns : goal.returns
returns c = rows_all c.requires c.loop-r.invariant (rw (← c.nodes.view_is) c.nodes.invariant) (rw (← c.nodes.view_is) (omega arith))
