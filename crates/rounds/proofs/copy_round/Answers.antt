-- The rows before this one are as the round leaves them, and it is known which of them changed. Assumes nothing.
use Rattle.std.proofs.Common.{refl}
use native.Mathlib.Omega.{arith}
use Rattle.rounds.proofs.Copying.{row_done, copying-more, copying-all}
use Rattle.rounds.proofs.copy_round.Goals as goal

pub loop-row-preserved : goal.loop-row-preserved
loop-row-preserved c =
    let asked = c.requires in
    let t = c.loop-row.invariant in
    copying-more t c.loop-row-test.true (row_done t c.loop-row-test.true asked.4 asked.5 c.copy_row-row_changed.ensures) (omega arith) refl

pub returns : goal.returns
returns c = copying-all c.requires.0.size (omega arith) c.loop-row.invariant
