-- The legs before i are written. Assumes nothing.
use native.Mathlib.Omega.{arith}
use Rattle.to_legs.proofs.Writing.{writing-none, leg-fits, number_fits, writing_more, writing-all}
use Rattle.to_legs.proofs.write_legs.Goals as goal

pub loop-i-init : goal.loop-i-init
loop-i-init c = writing-none c.requires

pub leg_number-requires : goal.leg_number-requires
leg_number-requires c = leg-fits c.loop-i.invariant (omega arith) c.letter_code-code.ensures c.run_end-end.ensures

pub put_number-at-requires : goal.put_number-at-requires
put_number-at-requires c = number_fits c.loop-i.invariant (omega arith) c.letter_code-code.ensures c.run_end-end.ensures c.leg_number.ensures

pub loop-i-smaller : goal.loop-i-smaller
loop-i-smaller c = omega (arith, c.run_end-end.ensures)

pub loop-i-preserved : goal.loop-i-preserved
loop-i-preserved c =
    writing_more c.loop-i.invariant (omega arith) c.letter_code-code.ensures c.run_end-end.ensures c.leg_number.ensures
    c.put_number-at.ensures

pub returns : goal.returns
returns c = writing-all c.loop-i.invariant (omega arith)
