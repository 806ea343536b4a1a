-- The legs before i are measured. Assumes nothing.
use Rattle.std.proofs.Common.{arith, refl}
use Rattle.to_legs.proofs.Measuring.{measuring-none, measuring-long, measuring-more, measuring-many, measuring-all}
use Rattle.to_legs.proofs.measure_legs.Goals as goal

pub loop-i-init : goal.loop-i-init
loop-i-init c = measuring-none _ c.requires

pub returns-then-end-i-gt16384-clause-long : goal.returns-then-end-i-gt16384-clause-long
returns-then-end-i-gt16384-clause-long c = (measuring-long c.loop-i.invariant (omega arith) c.run_end-end.ensures c.if-end-i-gt16384.true, refl)

pub loop-i-preserved : goal.loop-i-preserved
loop-i-preserved c = measuring-more c.loop-i.invariant (omega arith) c.run_end-end.ensures c.if-end-i-gt16384.false c.leg_size-bytes.ensures

pub returns-then-legs-gt65535-clause-long : goal.returns-then-legs-gt65535-clause-long
returns-then-legs-gt65535-clause-long c = (measuring-many c.loop-i.invariant (omega arith) c.if-legs-gt65535.true, refl)

pub returns-clause-measured : goal.returns-clause-measured
returns-clause-measured c = measuring-all c.loop-i.invariant (omega arith) c.if-legs-gt65535.false
