-- The map's refusals are as they were told; else what is done is what is done on its marking. Assumes nothing.
use Rattle.std.proofs.lemmas.Result.{err_from_is_err_and}
use Rattle.picking.proofs.Picked.{both-refused, marked-picked}
use Rattle.picking.proofs.route_both.Goals as goal

pub returns-in_err-marks : goal.returns-in_err-marks
returns-in_err-marks c =
    let p = err_from_is_err_and c.from_residual.result c.from_residual.ensures.1 in
    rw (p.1, p.2) (both-refused _ _ _ _ _ _ _ _ c.in_err-marks.ensures.refusals)

pub returns : goal.returns
returns c = marked-picked _ _ _ _ _ _ _ c.in_ok-marks.ensures.refusals c.in_ok-marks.ensures.marks c.pick_marked.ensures
