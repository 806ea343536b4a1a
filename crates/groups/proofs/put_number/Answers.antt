-- One, two or three groups. Assumes nothing.
use native.Mathlib.Omega.{arith}
use Rattle.theory_legs.proofs.Groups.{size-one, size-two, size-more, size-three}
use Rattle.groups.proofs.Writing.{puts_one, puts-two, puts-three}
use Rattle.groups.proofs.put_number.Goals as goal

pub put_byte-requires : goal.put_byte-requires
put_byte-requires c = omega (arith, size-one _ c.if-n-lt128.true)

pub returns-then-n-lt128 : goal.returns-then-n-lt128
returns-then-n-lt128 c = puts_one _ c.if-n-lt128.true c.put_byte.ensures

pub put_byte-second-requires : goal.put_byte-second-requires
put_byte-second-requires c = omega (arith, size-more _ c.if-n-lt128.false)

pub put_byte-requires-then-n-lt16384 : goal.put_byte-requires-then-n-lt16384
put_byte-requires-then-n-lt16384 c = omega (arith, size-two _ c.if-n-lt128.false c.if-n-lt16384.true)

pub returns-then-n-lt16384 : goal.returns-then-n-lt16384
returns-then-n-lt16384 c = puts-two _ c.if-n-lt128.false c.if-n-lt16384.true c.put_byte-second.ensures c.put_byte-then-n-lt16384.ensures

pub put_byte-third-requires : goal.put_byte-third-requires
put_byte-third-requires c = omega (arith, size-three _ c.if-n-lt16384.false)

pub put_byte-requires-2 : goal.put_byte-requires-2
put_byte-requires-2 c = omega (arith, size-three _ c.if-n-lt16384.false)

pub returns : goal.returns
returns c =
    puts-three _ c.if-n-lt16384.false c.requires.0 c.put_byte-second.ensures c.put_byte-third.ensures
    c.put_byte-2.ensures
