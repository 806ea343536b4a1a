-- A node in a round. Assumes nothing.
use Rattle.std.specs.Prelude.{ℕ, ◌+◌, ◌*◌, get_or}
use Rattle.mesh.specs.Mesh.{Mesh}
use Rattle.mesh.specs.Nodes.{bad, unsafe}
use Rattle.mesh.specs.Rounds.{become}

-- what the node at (r, c) becomes in a round
unfoldable pub node_after : Mesh → ℕ → ℕ → ℕ
node_after w r c = become (unsafe (bad w) r c) (get_or w.map (r * w.columns + c) 0)
