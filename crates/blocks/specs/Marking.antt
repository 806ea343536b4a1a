-- What routing asks of a marking. Assumes nothing.
use Rattle.mesh.specs.Mesh.{Mesh}
use Rattle.theory_blocks.specs.Obstacles.{ObstaclesOf}

-- marks with the bad nodes in blocks
pub record Marking (w : Mesh) : Type 0 where
  pub obstacles : ObstaclesOf w
