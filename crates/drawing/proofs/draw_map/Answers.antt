-- After i draws the state, the faults and the map are those of the definition. Assumes nothing.
use Rattle.std.proofs.Common.{arith}
use Rattle.theory_draw.proofs.Draws.{few-draws, some-places}
use Rattle.drawing.proofs.BadDraws.{large}
use Rattle.drawing.proofs.Drawing.{drawing-none, drawn-few, adds_one, index-fits, drawing-more}
use Rattle.drawing.proofs.draw_map.Goals as goal

pub loop-init : goal.loop-init
loop-init c = drawing-none _ c.requires.size (c.fill.ensures.after (λ y e. e))

pub pick_place-requires : goal.pick_place-requires
pick_place-requires c =
    let (wide, high) = large _ _ _ c.requires.good-draws (omega arith) in
    (wide, c.requires.few-columns, high, c.requires.few-rows)

pub set_fault-faults-requires : goal.set_fault-faults-requires
set_fault-faults-requires c =
    let some = some-places _ _ _ c.requires.good-draws (omega arith) in
    index-fits c.loop.invariant some c.next_state-state.ensures c.pick_place.ensures c.requires.few-columns c.requires.few-rows

pub overflow_add-faults : goal.overflow_add-faults
overflow_add-faults c =
    omega (arith, drawn-few c.loop.invariant, adds_one c.set_fault-faults.ensures, few-draws _ _ _ c.requires.good-draws)

pub loop-preserved : goal.loop-preserved
loop-preserved c =
    let some = some-places _ _ _ c.requires.good-draws (omega arith) in
    drawing-more c.loop.invariant some c.next_state-state.ensures c.pick_place.ensures c.loop-test.true c.set_fault-faults.ensures
