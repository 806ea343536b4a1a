-- A sound node is passed over; a fault is merged with those after it that are close. Assumes nothing.
use Rattle.std.proofs.Common.{arith}
use Rattle.faults.proofs.Groups.{chain-inside}
use Rattle.boxing.proofs.Rows.{chain-from}
use Rattle.boxing.proofs.Steps.{row-few, looks-sound, fault-ready, looks-fault}
use Rattle.boxing.proofs.merge_node.Goals as goal

pub returns-then-nodes-i-eq0 : goal.returns-then-nodes-i-eq0
returns-then-nodes-i-eq0 c =
    let (on, ready) = rw (← c.nodes.view_is) at c.requires in
    rw (← c.nodes.view_is) (looks-sound c.nodes.invariant on ready c.if-nodes-i-eq0.true)

pub overflow_sub-east : goal.overflow_sub-east
overflow_sub-east c =
    let (on, _) = rw (← c.nodes.view_is) at c.requires in
    omega (arith, on.from, chain-from c.group_end-last.ensures.chain)

pub merge-requires : goal.merge-requires
merge-requires c =
    let (on, ready) = rw (← c.nodes.view_is) at c.requires in
    fault-ready c.nodes.invariant on ready c.if-nodes-i-eq0.false c.group_end-last.ensures c.row_box.ensures

pub overflow_add-result-2 : goal.overflow_add-result-2
overflow_add-result-2 c =
    let (on, _) = rw (← c.nodes.view_is) at c.requires in
    omega (arith, row-few c.nodes.invariant on, chain-inside c.group_end-last.ensures.chain)

pub returns : goal.returns
returns c =
    let (on, ready) = rw (← c.nodes.view_is) at c.requires in
    rw (← c.nodes.view_is)
    (looks-fault c.nodes.invariant on ready c.if-nodes-i-eq0.false c.group_end-last.ensures c.row_box.ensures c.merge.ensures)
