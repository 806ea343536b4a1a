use Rattle.boxing.proofs.Steps.{Rowwise}
use Rattle.boxing.proofs.merge_faults.Given as goal

abbrev pub invariant-loop-r : goal.invariant-loop-r
invariant-loop-r l = Rowwise l.nodes l.initial.list l.r l.n l.list
