-- A row is a part of the map, and is copied as one. Assumes nothing.
use Rattle.mesh.proofs.Bools.{true-false}
use Rattle.rounds.proofs.copy_row.Goals as goal

pub returns : goal.returns
returns c =
    record {
      kept = λ e. true-false c.if-not-due-r.false e;
      copied = λ e. c.copy_part.ensures;
    }
