use Rattle.mesh.specs.Maps.{misplaced_at}
use Rattle.mesh.proofs.Some.{LookedThrough}
use Rattle.maps.proofs.has_misplaced.Given as goal

abbrev pub invariant-loop-i : goal.invariant-loop-i
invariant-loop-i l = LookedThrough (misplaced_at l.nodes.columns l.nodes.rows) l.nodes.map l.i-end l.i
