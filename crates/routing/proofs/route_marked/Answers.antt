-- Refusals 6 to 9 are as they were told; where none applies the hops lead to the destination, and are written if they fit. Assumes nothing.
use Rattle.std.proofs.Common.{sym, ◌∙◌}
use Rattle.std.proofs.lemmas.Result.{err_from_is_err_and}
use Rattle.routing.proofs.Routed.{starts, rest-hops, request-refused, room-refused, routed}
use Rattle.routing.proofs.route_marked.Goals as goal

pub returns-in_err-check_request : goal.returns-in_err-check_request
returns-in_err-check_request c =
    let p = err_from_is_err_and c.from_residual.result c.from_residual.ensures.1 in
    rw (p.1, p.2) (request-refused _ _ _ _ _ _ c.in_err-check_request.ensures)

pub has_room-requires : goal.has_room-requires
has_room-requires c =
    starts _ _ _ c.nodes.view_is c.nodes.invariant c.marks.invariant (rw (← c.marks.view_is) at c.in_ok-check_request.ensures)

pub returns-then-not-has_room : goal.returns-then-not-has_room
returns-then-not-has_room c =
    let clear = rw (← c.marks.view_is) at c.in_ok-check_request.ensures in
    let hops = rest-hops _ _ _ c.nodes.view_is c.nodes.invariant c.marks.invariant clear in
    rw (← c.marks.view_is) (room-refused _ _ _ _ _ clear hops (sym c.has_room.ensures ∙ c.if-not-has_room.true))

pub straight-requires : goal.straight-requires
straight-requires c =
    starts _ _ _ c.nodes.view_is c.nodes.invariant c.marks.invariant (rw (← c.marks.view_is) at c.in_ok-check_request.ensures)

pub returns : goal.returns
returns c =
    let clear = rw (← c.marks.view_is) at c.in_ok-check_request.ensures in
    let hops = rest-hops _ _ _ c.nodes.view_is c.nodes.invariant c.marks.invariant clear in
    rw (← c.marks.view_is)
    (routed _ _ _ _ _ clear hops (sym c.has_room.ensures ∙ c.if-not-has_room.false) c.straight.ensures.counts c.straight.ensures.writes)
