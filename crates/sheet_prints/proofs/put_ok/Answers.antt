-- Its pieces are written one after another, and a number has at most five digits. Assumes nothing.
use native.Mathlib.Omega.{arith}
use Rattle.sheet_prints.proofs.Decimal.{decimal-length}
use Rattle.sheet_prints.proofs.Lines.{letters-length, puts-ok}
use Rattle.sheet_prints.proofs.put_ok.Goals as goal

pub put_letters-after-requires : goal.put_letters-after-requires
put_letters-after-requires c = omega (arith, decimal-length _ c.requires.0)

pub put_byte-requires : goal.put_byte-requires
put_byte-requires c = omega (arith, decimal-length _ c.requires.0, letters-length c.args.letters.now)

pub returns : goal.returns
returns c = puts-ok _ c.put-hops.ensures c.put_number-space.ensures c.put_letters-after.ensures c.put_byte.ensures
