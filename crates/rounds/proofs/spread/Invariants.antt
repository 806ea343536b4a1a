use Rattle.rounds.specs.Rounds.{Spread}
use Rattle.rounds.proofs.spread.Given as goal

abbrev pub invariant-loop-row : goal.invariant-loop-row
invariant-loop-row l = Spread l.rows l.changed l.row l.due
