-- Before the last free node but one nothing stops the packet, and at that one the second node is looked at. Assumes nothing.
use Rattle.std.proofs.Common.{arith}
use Rattle.hops.specs.Moved.{moved_by}
use Rattle.travel.proofs.Runs.{row-reaches, row-lands, row_on, unstopped-none, unstopped-before, unstopped-all}
use Rattle.travel.proofs.count_unstopped.Goals as goal

pub count_free-free-requires : goal.count_free-free-requires
count_free-free-requires c =
    let pre = c.requires in
    row-reaches _ pre.0 (rw (← c.nodes.view_is) c.nodes.invariant) pre.1 c.abs_diff-n.ensures pre.3

pub returns-then-free-eq0 : goal.returns-then-free-eq0
returns-then-free-eq0 c =
    let pre = c.requires in
    unstopped-none _ pre.0 (rw (← c.nodes.view_is) c.nodes.invariant) pre.1 c.abs_diff-n.ensures pre.3
    c.count_free-free.ensures pre.2 c.if-free-eq0.true

pub moved_by-last-requires : goal.moved_by-last-requires
moved_by-last-requires c =
    let pre = c.requires in
    row-lands _ pre.0 (rw (← c.nodes.view_is) c.nodes.invariant) pre.1 c.abs_diff-n.ensures pre.3 c.count_free-free.ensures

pub is_stopped_by_second-requires : goal.is_stopped_by_second-requires
unfolding moved_by
is_stopped_by_second-requires c =
    let pre = c.requires in
    rw c.moved_by-last.ensures
    (row_on _ pre.0 (rw (← c.nodes.view_is) c.nodes.invariant) pre.1 c.abs_diff-n.ensures pre.3 c.count_free-free.ensures)

pub returns-then-is_stopped_by_second : goal.returns-then-is_stopped_by_second
unfolding moved_by
returns-then-is_stopped_by_second c =
    let pre = c.requires in
    unstopped-before _ pre.0 (rw (← c.nodes.view_is) c.nodes.invariant) pre.1 c.abs_diff-n.ensures pre.3 c.count_free-free.ensures
    (omega arith) (rw c.moved_by-last.ensures at c.is_stopped_by_second.ensures) c.if-is_stopped_by_second.true

pub returns-else-is_stopped_by_second : goal.returns-else-is_stopped_by_second
unfolding moved_by
returns-else-is_stopped_by_second c =
    let pre = c.requires in
    unstopped-all _ pre.0 (rw (← c.nodes.view_is) c.nodes.invariant) pre.1 c.abs_diff-n.ensures pre.3 c.count_free-free.ensures
    (omega arith) (rw c.moved_by-last.ensures at c.is_stopped_by_second.ensures) c.if-is_stopped_by_second.false
