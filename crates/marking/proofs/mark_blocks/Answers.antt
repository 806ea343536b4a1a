-- Once no refusal is left the marking is made in the output's first part, and its blocks are counted there. Assumes nothing.
use Rattle.std.proofs.lemmas.Result.{err_from_is_err_and}
use Rattle.marking.proofs.Marks.{map-refused, room-refused, marks-done}
use Rattle.marking.proofs.mark_blocks.Goals as goal

pub returns-in_err-nodes : goal.returns-in_err-nodes
returns-in_err-nodes c =
    let p = err_from_is_err_and c.from_residual.result c.from_residual.ensures.1 in
    rw (p.1, p.2) (map-refused _ _ _ _ _ c.in_err-nodes.ensures.refusals)

pub returns-then-out-map : goal.returns-then-out-map
returns-then-out-map c = room-refused _ _ _ _ c.in_ok-nodes.ensures.refusals c.if-out-map.true

pub returns : goal.returns
returns c =
    marks-done _ _ _ _ c.in_ok-nodes.ensures.refusals c.if-out-map.false
    c.in_ok-nodes.ensures.nodes c.mark-rounds.ensures c.count_blocks.ensures
