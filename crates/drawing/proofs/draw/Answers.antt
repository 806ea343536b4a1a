-- What the refusals leave is what drawing asks. Assumes nothing.
use Rattle.std.proofs.Common.{sym, ◌∙◌, arith, length-take-le}
use Rattle.mesh.proofs.Maps.{good-size, good-few}
use Rattle.drawing.proofs.draw.Goals as goal

pub overflow_mul-n : goal.overflow_mul-n
overflow_mul-n c =
    omega (
      arith,
      good-few _ _ (sym c.is_bad_size.ensures ∙ c.if-is_bad_size.false) (sym c.is_bad_size-2.ensures ∙ c.if-is_bad_size-2.false),
    )

pub draw_map-requires : goal.draw_map-requires
draw_map-requires c =
    record {
      few-columns = good-size _ (sym c.is_bad_size.ensures ∙ c.if-is_bad_size.false);
      few-rows = good-size _ (sym c.is_bad_size-2.ensures ∙ c.if-is_bad_size-2.false);
      good-draws = sym c.is_bad_draws.ensures ∙ c.if-is_bad_draws.false;
      size = length-take-le _ _ (omega arith);
    }
