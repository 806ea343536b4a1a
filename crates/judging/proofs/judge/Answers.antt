-- The map's refusals are as they were told; else the verdict is that on its marking. Assumes nothing.
use Rattle.std.proofs.Common.{◌∙◌}
use Rattle.std.proofs.lemmas.Result.{err_from_is_err_and}
use Rattle.judging.proofs.Verdicts.{map-refused, marked-judged}
use Rattle.judging.proofs.judge.Goals as goal

pub returns-in_err-marks : goal.returns-in_err-marks
returns-in_err-marks c =
    let p = err_from_is_err_and c.from_residual.result c.from_residual.ensures.1 in
    rw (p.1, p.2) (map-refused _ _ _ _ _ _ _ _ c.in_err-marks.ensures.refusals)

pub returns : goal.returns
returns c = c.judge_marked.ensures ∙ marked-judged _ _ _ _ _ _ _ c.in_ok-marks.ensures.refusals (c.marks.view_is ∙ c.in_ok-marks.ensures.marks)
