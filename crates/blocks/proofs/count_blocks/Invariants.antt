use Rattle.mesh.specs.Mesh.{mesh}
use Rattle.blocks.proofs.Corners.{Counted}
use Rattle.blocks.proofs.count_blocks.Given as goal

abbrev pub invariant-loop-i : goal.invariant-loop-i
invariant-loop-i l = Counted (mesh l.nodes.columns l.nodes.rows l.nodes.map) l.k l.i
