use Rattle.drawing.proofs.Drawing.{Drawing}
use Rattle.drawing.proofs.draw_map.Given as goal

abbrev pub invariant-loop : goal.invariant-loop
invariant-loop l = Drawing l.columns l.rows l.seed l.draws l.counter l.state l.faults l.map
