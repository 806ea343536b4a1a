-- Refusals 6 and 7 are as they were told; where neither applies the destination is on the mesh, and a block near it in its row decides. Assumes
-- nothing.
use Rattle.std.proofs.lemmas.Result.{err_from_is_err_and}
use Rattle.requests.proofs.Refused.{place-refused, destination-on, near-decides}
use Rattle.requests.proofs.check_trip.Goals as goal

pub returns-in_err-check_places : goal.returns-in_err-check_places
returns-in_err-check_places c =
    let p = err_from_is_err_and c.from_residual.result c.from_residual.ensures.1 in
    rw (p.1, p.2) (place-refused _ _ _ _ (rw c.marks.view_is at c.in_err-check_places.ensures))

pub is_block_near_in_row-requires : goal.is_block_near_in_row-requires
is_block_near_in_row-requires c = destination-on _ _ _ (rw c.marks.view_is at c.in_ok-check_places.ensures)

pub returns-then-is_block_near_in_row : goal.returns-then-is_block_near_in_row
returns-then-is_block_near_in_row c =
    rw c.if-is_block_near_in_row.true at
    (near-decides _ _ _ (rw c.marks.view_is at c.in_ok-check_places.ensures) c.is_block_near_in_row.ensures)

pub returns : goal.returns
returns c =
    rw c.if-is_block_near_in_row.false at
    (near-decides _ _ _ (rw c.marks.view_is at c.in_ok-check_places.ensures) c.is_block_near_in_row.ensures)
