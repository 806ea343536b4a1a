-- No round changes what the marking will be, each that changes something leaves fewer safe nodes, and where none does it is the marking, and
-- all rounds are counted. Assumes nothing.
use native.Mathlib.Omega.{arith}
use Rattle.mesh.proofs.Index.{few-nodes}
use Rattle.rounds.proofs.Rounds.{settling-start, settling-more, settling-few, settling-less, settling-end}
use Rattle.rounds.proofs.settle.Goals as goal

pub loop-next-init : goal.loop-next-init
loop-next-init c = settling-start _ _ 64 _ c.requires c.requires.few-rows

pub round_in_place-requires : goal.round_in_place-requires
round_in_place-requires c =
    let asked = c.requires in
    let s = c.loop-next.invariant in
    (s.sized, omega (arith, few-nodes _ _ asked.few-columns asked.few-rows, s.sized.size), omega arith, s.quiet)

pub overflow_add-made : goal.overflow_add-made
overflow_add-made c =
    let asked = c.requires in
    omega (arith, settling-few c.loop-next.invariant asked.size, few-nodes _ _ asked.few-columns asked.few-rows)

pub loop-next-smaller : goal.loop-next-smaller
loop-next-smaller c = settling-less c.loop-next.invariant c.round_in_place.ensures c.loop-next-test.true

pub loop-next-preserved : goal.loop-next-preserved
loop-next-preserved c = settling-more c.loop-next.invariant c.round_in_place.ensures c.loop-next-test.true

pub returns : goal.returns
returns c = settling-end c.loop-next.invariant c.round_in_place.ensures c.loop-next-test.false
