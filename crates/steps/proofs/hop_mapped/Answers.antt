-- The map's refusals are as they were told; else what happens is what happens on its marking. Assumes nothing.
use Rattle.std.proofs.lemmas.Result.{err_from_is_err_and}
use Rattle.steps.proofs.Moves.{map-refused, marked-moves}
use Rattle.steps.proofs.hop_mapped.Goals as goal

pub returns-in_err-marks : goal.returns-in_err-marks
returns-in_err-marks c =
    let q = err_from_is_err_and c.from_residual.result c.from_residual.ensures.1 in
    rw (q.1, q.2) (map-refused _ _ _ _ _ _ c.in_err-marks.ensures.refusals)

pub returns : goal.returns
returns c = marked-moves _ _ _ _ _ c.in_ok-marks.ensures.refusals c.in_ok-marks.ensures.marks c.hop_marked.ensures
