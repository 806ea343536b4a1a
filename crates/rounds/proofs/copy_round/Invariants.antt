use Rattle.mesh.specs.Mesh.{mesh}
use Rattle.rounds.proofs.Copying.{Copying}
use Rattle.rounds.proofs.copy_round.Given as goal

abbrev pub invariant-loop-row : goal.invariant-loop-row
invariant-loop-row l = Copying (mesh l.columns l.rows l.initial.out) l.row l.any l.changed l.out
