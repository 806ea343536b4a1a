use Rattle.theory_blocks.specs.Rounds.{safe_nodes}
use Rattle.rounds.proofs.Rounds.{Settling}
use Rattle.rounds.proofs.settle.Given as goal

abbrev pub invariant-loop-next : goal.invariant-loop-next
invariant-loop-next l = Settling l.columns l.rows l.initial.out l.made l.changed l.out

abbrev pub decreases-loop-next : goal.decreases-loop-next
decreases-loop-next l = safe_nodes l.out
