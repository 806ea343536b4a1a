-- The two modes: one walk, leg by leg. What falls is the hop limit less the hops made, counted twice and one more in straight travel, which
-- may hand over at once. Assumes nothing.
use Rattle.std.proofs.Common.{sym, ◌∙◌, arith}
use Rattle.walk.proofs.Following.{follows-there, round-one, along-few, along-lands, along-leg}
use Rattle.walk.proofs.+round_block_straight.Goals as goal

pub round_block-advance-p-requires : goal.round_block-advance-p-requires
round_block-advance-p-requires t c =
    let one = round-one c.loop-out.invariant.off c.go_round-h.ensures in
    along-lands c.loop-out.invariant.along one

pub round_block-straight-requires : goal.round_block-straight-requires
round_block-straight-requires t c =
    let one = round-one c.loop-out.invariant.off c.go_round-h.ensures in
    let along = c.loop-out.invariant.along in
    let begun = c.decreases in
    (omega (arith, begun, along.grew, along-few along one), (along-leg along one (omega arith) c.advance-p.ensures).going)

pub round_block-returns-then-is_straight : goal.round_block-returns-then-is_straight
round_block-returns-then-is_straight t c =
    let one = round-one c.loop-out.invariant.off c.go_round-h.ensures in
    let leg = along-leg c.loop-out.invariant.along one (omega arith) c.advance-p.ensures in
    leg.onward c.straight.ensures

pub round_block-loop-out-preserved : goal.round_block-loop-out-preserved
round_block-loop-out-preserved t c =
    let one = round-one c.loop-out.invariant.off c.go_round-h.ensures in
    record {
      along = along-leg c.loop-out.invariant.along one (omega arith) c.advance-p.ensures;
      off = sym c.is_straight.ensures ∙ c.if-is_straight.false;
    }

pub straight-advance-p-requires : goal.straight-advance-p-requires
straight-advance-p-requires t c =
    let leg = c.next_leg-leg.ensures in
    along-lands c.loop-network.invariant leg.1

pub straight-overflow_add-made : goal.straight-overflow_add-made
straight-overflow_add-made t c =
    let leg = c.next_leg-leg.ensures in
    omega (arith, along-few c.loop-network.invariant leg.1)

pub straight-loop-network-preserved : goal.straight-loop-network-preserved
straight-loop-network-preserved t c =
    let leg = c.next_leg-leg.ensures in
    along-leg c.loop-network.invariant leg.1 leg.0 c.advance-p.ensures

pub straight-returns : goal.straight-returns
straight-returns t c =
    c.loop-network.invariant.onward
    (follows-there _ _ _ _ _ (sym c.is_there.ensures ∙ c.loop-network-test.false))
