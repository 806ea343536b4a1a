-- Where no hop comes before a stop, the hop that the stop asks for is a leg. Assumes nothing.
use Rattle.std.proofs.Common.{arith}
use Rattle.travel.proofs.Runs.{leaves-row}
use Rattle.travel.proofs.row_leg.Goals as goal

pub returns-else-hops-gt0 : goal.returns-else-hops-gt0
returns-else-hops-gt0 c =
    let pre = c.requires in
    (omega arith, leaves-row _ _ pre.1 pre.2 c.again.ensures (c.count_unstopped-hops.ensures.stops (omega arith)))
