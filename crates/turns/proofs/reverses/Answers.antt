-- Two quarter turns are a reversal. Assumes nothing.
use Rattle.turns.proofs.Arithmetic.{back-reverses}
use Rattle.turns.proofs.reverses.Goals as goal

pub returns : goal.returns
returns c = rw (c.quarter_turns.ensures, c.code.ensures, c.code-2.ensures) (back-reverses _ _)
