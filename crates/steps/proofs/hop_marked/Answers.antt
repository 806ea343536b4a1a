-- Refusals 6 to 8 are as they were told; where none applies the packet is on the mesh, and is there or makes its hop, which is lawful exactly
-- if its test finds no mistake. Assumes nothing.
use Rattle.std.proofs.Common.{sym, ◌∙◌}
use Rattle.std.proofs.lemmas.Result.{err_from_is_err_and}
use Rattle.requests.proofs.Refused.{source-on}
use Rattle.steps.proofs.Moves.{moves-refused, moves-arrived, moves-hop, moves-unlawful}
use Rattle.steps.proofs.hop_marked.Goals as goal

pub returns-in_err-check_trip : goal.returns-in_err-check_trip
returns-in_err-check_trip c =
    let q = err_from_is_err_and c.from_residual.result c.from_residual.ensures.1 in
    rw (q.1, q.2) (moves-refused _ _ _ _ c.in_err-check_trip.ensures)

pub returns-then-is_there : goal.returns-then-is_there
returns-then-is_there c = moves-arrived _ _ _ c.in_ok-check_trip.ensures (sym c.is_there.ensures ∙ c.if-is_there.true)

pub hop-h-requires : goal.hop-h-requires
hop-h-requires c = rw c.marks.view_is (source-on _ _ _ c.in_ok-check_trip.ensures)

pub test_hop-requires : goal.test_hop-requires
test_hop-requires c = rw c.marks.view_is (source-on _ _ _ c.in_ok-check_trip.ensures)

pub returns-in-Ok : goal.returns-in-Ok
returns-in-Ok c =
    moves-hop _ _ _ c.in_ok-check_trip.ensures (sym c.is_there.ensures ∙ c.if-is_there.false)
    (rw c.marks.view_is at c.hop-h.ensures) (rw c.marks.view_is at c.test_hop.ensures) c.in-Ok.is

pub returns-in-Err : goal.returns-in-Err
returns-in-Err c =
    moves-unlawful _ _ _ c.in_ok-check_trip.ensures (sym c.is_there.ensures ∙ c.if-is_there.false)
    (rw c.marks.view_is at c.hop-h.ensures) (rw c.marks.view_is at c.test_hop.ensures) c.in-Err.is
