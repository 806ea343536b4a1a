use Rattle.mesh.specs.Nodes.{bad}
use Rattle.hops.proofs.Ways.{Clear}
use Rattle.hops.proofs.count_free.Given as goal

abbrev pub invariant-loop-k : goal.invariant-loop-k
invariant-loop-k l = Clear (bad l.nodes) l.h l.n l.s.row.0 l.s.column.0 l.k
