-- Its pieces are written one after another, and a number has at most five digits. Assumes nothing.
use native.Mathlib.Omega.{arith}
use Rattle.sheet_prints.proofs.Decimal.{decimal-length}
use Rattle.sheet_prints.proofs.Lines.{puts-line}
use Rattle.sheet_prints.proofs.put_line.Goals as goal

pub put_byte-requires : goal.put_byte-requires
put_byte-requires c = omega (arith, decimal-length _ c.requires.0)

pub returns : goal.returns
returns c = puts-line _ _ c.put-number.ensures c.put_number-end.ensures c.put_byte.ensures
