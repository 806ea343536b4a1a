use Rattle.mesh.specs.Mesh.{mesh}
use Rattle.rounds.specs.Rounds.{DueAfter}
use Rattle.rounds.proofs.round.Given as goal

abbrev pub invariant-loop-row : goal.invariant-loop-row
invariant-loop-row l = DueAfter (mesh l.nodes.columns l.nodes.rows l.nodes.map) l.due l.row l.next
