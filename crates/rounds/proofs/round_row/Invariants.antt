use Rattle.mesh.specs.Mesh.{mesh}
use Rattle.rounds.specs.Rounds.{RowAfter}
use Rattle.rounds.proofs.round_row.Given as goal

abbrev pub invariant-loop-column : goal.invariant-loop-column
invariant-loop-column l = RowAfter (mesh l.nodes.columns l.nodes.rows l.nodes.map) l.row.0 l.column l.initial.next l.next
