-- Refusals 6 and 7 are as they were told; where neither applies the source is on the mesh, and the letters decide. Assumes nothing.
use Rattle.std.proofs.Common.{◌∙◌}
use Rattle.std.proofs.lemmas.Result.{err_from_is_err_and}
use Rattle.judging.proofs.Verdicts.{places-refused, source-on, letters-judged}
use Rattle.judging.proofs.judge_marked.Goals as goal

pub returns-in_err-check_places : goal.returns-in_err-check_places
returns-in_err-check_places c =
    let p = err_from_is_err_and c.from_residual.result c.from_residual.ensures.1 in
    rw (p.1, p.2) (places-refused _ _ _ _ _ _ c.in_err-check_places.ensures)

pub judge_letters-requires : goal.judge_letters-requires
judge_letters-requires c = source-on c.args.network _ _ c.args.d c.args.letters.now c.in_ok-check_places.ensures

pub judge_letters-requires-in-Second : goal.judge_letters-requires-in-Second
judge_letters-requires-in-Second c = source-on c.args.network _ _ c.args.d c.args.letters.now c.in_ok-check_places.ensures

pub returns-in-First : goal.returns-in-First
returns-in-First c = rw c.in-First.is (c.judge_letters.ensures ∙ letters-judged _ _ _ _ _ c.in_ok-check_places.ensures)

pub returns-in-Second : goal.returns-in-Second
returns-in-Second c = rw c.in-Second.is (c.judge_letters-in-Second.ensures ∙ letters-judged _ _ _ _ _ c.in_ok-check_places.ensures)
