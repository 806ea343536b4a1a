use Rattle.judging.proofs.Letters.{Judging}
use Rattle.judging.proofs.judge_letters.Given as goal

abbrev pub invariant-loop-i : goal.invariant-loop-i
invariant-loop-i l = Judging l.network l.nodes l.fn.packet l.p l.letters l.i-counter
