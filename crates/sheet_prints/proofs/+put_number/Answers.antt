-- The digits of the tenth, which is less, then the last one. Assumes nothing.
use native.Mathlib.Omega.{arith}
use Rattle.sheet_prints.proofs.Lines.{puts-digit, tenth-fits, puts-number}
use Rattle.sheet_prints.proofs.+put_number.Goals as goal

pub returns-then-n-lt10 : goal.returns-then-n-lt10
returns-then-n-lt10 t c = puts-digit _ c.if-n-lt10.true c.put_byte.ensures

pub put_byte-requires-2 : goal.put_byte-requires-2
put_byte-requires-2 t c = omega (arith, tenth-fits _ c.requires.0 c.put_number-end.ensures)

pub returns : goal.returns
returns t c = puts-number _ (omega arith) c.put_number-end.ensures c.put_byte-2.ensures
