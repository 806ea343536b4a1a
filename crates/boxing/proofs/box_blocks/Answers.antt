-- The refusals in order; then the faults merged, the boxes sorted, and zeros after them. Assumes nothing.
use Rattle.std.proofs.Common.{sym, ◌*◌, ◌≤◌, length, arith}
use Rattle.std.proofs.lemmas.Result.{err_from_is_err_and}
use Rattle.boxing.proofs.Clearing.{cleared-part}
use Rattle.boxing.proofs.Boxing.{map-refused, few, room-refused, ready, sort-room, clear_room, boxes-done}
use Rattle.boxing.proofs.box_blocks.Goals as goal
use Rattle.boxing.proofs.box_blocks.Goals.{After-sort}

pub returns-in_err-nodes : goal.returns-in_err-nodes
returns-in_err-nodes c =
    let p = err_from_is_err_and c.from_residual.result c.from_residual.ensures.1 in
    rw (p.1, p.2) (map-refused _ _ _ _ c.in_err-nodes.ensures.refusals)

pub returns-then-list-faults : goal.returns-then-list-faults
returns-then-list-faults c =
    room-refused _ _ _ _ (sym c.in_ok-nodes.ensures.refusals) c.count_faults-faults.ensures c.if-list-faults.true

pub merge_faults-n-requires : goal.merge_faults-n-requires
merge_faults-n-requires c =
    rw c.in_ok-nodes.ensures.nodes
    (ready _ _ _ _ (sym c.in_ok-nodes.ensures.refusals) c.count_faults-faults.ensures c.if-list-faults.false)

pub sort-requires : goal.sort-requires
sort-requires c =
    sort-room _ _ _ _ (sym c.in_ok-nodes.ensures.refusals) c.count_faults-faults.ensures c.if-list-faults.false
    (rw c.in_ok-nodes.ensures.nodes at c.merge_faults-n.ensures)

-- no more boxes than faults, of which there are 4,096 at most
room : (c : After-sort) →
    (4 * c.merge_faults-n.result ≤ 4 * c.count_faults-faults.result) × (4 * c.count_faults-faults.result ≤ length c.sort.new.list) ×
    (c.count_faults-faults.result ≤ 4096)
room c =
    let clear = sym c.in_ok-nodes.ensures.refusals in
    let merged = rw c.in_ok-nodes.ensures.nodes at c.merge_faults-n.ensures in
    let (h, k) = clear_room _ _ _ _ clear c.count_faults-faults.ensures c.if-list-faults.false merged c.sort.ensures in
    (h, k, few _ _ _ clear c.count_faults-faults.ensures)

pub overflow_mul-n : goal.overflow_mul-n
overflow_mul-n c = omega (arith, room (goal.at.overflow_mul-n c).After-sort)

pub offset_bounds-list-n : goal.offset_bounds-list-n
offset_bounds-list-n c = omega (arith, room (goal.at.offset_bounds-list-n c).After-sort)

pub slice_bounds-fill-start : goal.slice_bounds-fill-start
slice_bounds-fill-start c = omega (arith, room (goal.at.slice_bounds-fill-start c).After-sort)

pub slice_bounds-fill-count : goal.slice_bounds-fill-count
slice_bounds-fill-count c = omega (arith, room (goal.at.slice_bounds-fill-count c).After-sort)

pub overflow_cast-result : goal.overflow_cast-result
overflow_cast-result c = omega (arith, room (goal.at.overflow_cast-result c).After-sort)

pub returns : goal.returns
returns c =
    let (h, k, _) = room (goal.at.returns c).After-sort in
    boxes-done _ _ _ _ (sym c.in_ok-nodes.ensures.refusals) c.count_faults-faults.ensures c.if-list-faults.false
    (rw c.in_ok-nodes.ensures.nodes at c.merge_faults-n.ensures) c.sort.ensures
    (cleared-part _ _ _ _ h k (c.fill.ensures.after (λ y e. e)))
