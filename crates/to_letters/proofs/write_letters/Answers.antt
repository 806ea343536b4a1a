-- The letters of some legs are written. Assumes nothing.
use Rattle.std.proofs.Common.{◌≡◌, ◌-◌, arith}
use Rattle.to_letters.proofs.Writing.{writing-none, writing-all, writing-fault, leg-fits, writing_more}
use Rattle.to_letters.proofs.write_letters.Goals as goal

pub loop-init : goal.loop-init
loop-init c = let all : c.args.legs - 0 ≡ c.args.legs = omega arith in rw all (writing-none c.requires)

pub returns-in_default : goal.returns-in_default
returns-in_default c = writing-fault c.loop.invariant (omega arith) _ c.in_default.ensures

pub put_leg-to-requires : goal.put_leg-to-requires
put_leg-to-requires c = leg-fits c.loop.invariant (omega arith) _ _ c.in-Ok.ensures

pub loop-preserved : goal.loop-preserved
loop-preserved c = writing_more c.loop.invariant (omega arith) _ _ c.in-Ok.ensures (omega arith) c.put_leg-to.ensures

pub returns : goal.returns
returns c = writing-all c.loop.invariant (omega arith)
