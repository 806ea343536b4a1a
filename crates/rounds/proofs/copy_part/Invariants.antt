use Rattle.rounds.specs.Rounds.{Copied}
use Rattle.rounds.proofs.copy_part.Given as goal

-- the numbers before index i are copied
abbrev pub invariant-loop-i : goal.invariant-loop-i
invariant-loop-i l = Copied l.from l.initial.to l.start l.i l.changed l.to
