-- A leg of one letter, or a run. Assumes nothing.
use mathlib.Core.Path.{refl}
use native.Mathlib.Omega.{arith}
use Rattle.to_letters.proofs.Writing.{puts_one, puts-run}
use Rattle.to_letters.proofs.put_leg.Goals as goal

pub returns-then-n-lt4 : goal.returns-then-n-lt4
returns-then-n-lt4 c = puts_one _ _ c.if-n-lt4.true (rw (← c.direction.ensures, ← c.letter-byte.ensures) c.put_byte.ensures)

pub returns : goal.returns
returns c = rw (← c.direction.ensures, ← c.letter-byte.ensures) (puts-run _ _ (omega arith) c.fill.ensures refl)
