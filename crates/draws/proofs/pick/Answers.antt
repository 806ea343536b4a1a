-- The product of two numbers of 32 bits fits 64, and its upper half 32. Assumes nothing.
use Rattle.std.proofs.Common.{rules}
use Rattle.theory_draw.specs.Draws.{picked}
use Rattle.draws.proofs.pick.Goals as goal

pub returns : goal.returns
unfolding picked
returns c = search rules
