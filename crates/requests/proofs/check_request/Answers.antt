-- Refusals 6 to 8 are as they were told; where none applies the source is on the mesh, and refusal 9 decides. Assumes nothing.
use Rattle.std.proofs.lemmas.Result.{err_from_is_err_and}
use Rattle.requests.proofs.Refused.{trip-refused, source-on, unserved-decides}
use Rattle.requests.proofs.check_request.Goals as goal

pub returns-in_err-check_trip : goal.returns-in_err-check_trip
returns-in_err-check_trip c =
    let p = err_from_is_err_and c.from_residual.result c.from_residual.ensures.1 in
    rw (p.1, p.2) (trip-refused _ _ _ _ _ c.in_err-check_trip.ensures)

pub is_unserved-requires : goal.is_unserved-requires
is_unserved-requires c = rw c.marks.view_is (source-on _ _ _ c.in_ok-check_trip.ensures)

pub returns-then-is_unserved : goal.returns-then-is_unserved
returns-then-is_unserved c =
    rw c.if-is_unserved.true at
    (unserved-decides _ _ _ _ c.in_ok-check_trip.ensures (rw c.marks.view_is at c.is_unserved.ensures))

pub returns : goal.returns
returns c =
    rw c.if-is_unserved.false at
    (unserved-decides _ _ _ _ c.in_ok-check_trip.ensures (rw c.marks.view_is at c.is_unserved.ensures))
