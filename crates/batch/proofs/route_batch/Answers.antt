-- The map's refusals are as they were told, then 18; else what is done is what is done on the map's marking. Assumes nothing.
use Rattle.std.proofs.Common.{sym, ◌∙◌}
use Rattle.std.proofs.lemmas.Result.{err_from_is_err_and}
use Rattle.batch.proofs.Mapped.{map-refused, uneven-refused, short-refused, marked-batch, entries-enough}
use Rattle.batch.proofs.route_batch.Goals.{then-is_uneven-via-then-is_uneven, then-is_uneven-via-else-is_uneven+then-answers-sends}
use Rattle.batch.proofs.route_batch.Goals as goal

pub returns-in_err-marks : goal.returns-in_err-marks
returns-in_err-marks c =
    let p = err_from_is_err_and c.from_residual.result c.from_residual.ensures.1 in
    rw (p.1, p.2) (map-refused _ _ _ _ _ _ _ _ c.in_err-marks.ensures.refusals)

pub returns-then-is_uneven : goal.returns-then-is_uneven
returns-then-is_uneven c =
    let clear = c.in_ok-marks.ensures.refusals in
    elim c.then-is_uneven.branch [
      | then-is_uneven-via-then-is_uneven w ↦ uneven-refused _ _ _ _ _ _ _ clear (sym c.is_uneven.ensures ∙ w.if-is_uneven.true)
      | then-is_uneven-via-else-is_uneven+then-answers-sends w ↦
          short-refused _ _ _ _ _ _ _ clear (sym c.is_uneven.ensures ∙ w.if-is_uneven.false) w.if-answers-sends.true
    ]

pub route_sends-requires : goal.route_sends-requires
route_sends-requires c = (sym c.is_uneven.ensures ∙ c.if-is_uneven.false, entries-enough _ _ c.if-answers-sends.false)

pub returns : goal.returns
returns c =
    marked-batch _ _ _ _ _ _ _ c.in_ok-marks.ensures.refusals c.in_ok-marks.ensures.marks
    (sym c.is_uneven.ensures ∙ c.if-is_uneven.false) c.if-answers-sends.false c.route_sends.ensures
