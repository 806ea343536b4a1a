-- What falls is the hop limit less the hops made, counted twice and one more in straight travel, which may hand over at once. Assumes nothing.
use Rattle.std.proofs.Common.{◌≡◌, false, List, ℕ, ◌+◌, ◌-◌, ◌*◌}
use Rattle.mesh.specs.declared.Network.{Network}
use Rattle.mesh.specs.declared.Packet.{Packet}
use Rattle.mesh.specs.Mesh.{Mesh}
use Rattle.travel.specs.Straight.{goes_straight}
use Rattle.walk.specs.Following.{hop_limit}
use Rattle.walk.proofs.Following.{Along}
use Rattle.walk.proofs.+round_block_straight.Given as goal

abbrev pub decreases-round_block : goal.decreases-round_block
decreases-round_block l = 2 * (hop_limit - l.begun)

abbrev pub decreases-straight : goal.decreases-straight
decreases-straight l = 2 * (hop_limit - l.begun) + 1

-- round a block: the packet has come to p, and does not travel straight from there
pub record Round (network : Network) (w : Mesh) (p₀ : Packet) (out₀ : List ℕ) (begun : ℕ) (p : Packet) (out : List ℕ) (made : ℕ) : Type 0 where
  pub along : Along network w p₀ out₀ begun p out made
  pub off : goes_straight p ≡ false

abbrev pub invariant-round_block-loop-out : goal.invariant-round_block-loop-out
invariant-round_block-loop-out l = Round l.network l.nodes l.initial.p l.initial.out l.begun l.p l.out l.made

abbrev pub decreases-round_block-loop-out : goal.decreases-round_block-loop-out
decreases-round_block-loop-out l = hop_limit - l.made

abbrev pub invariant-straight-loop-network : goal.invariant-straight-loop-network
invariant-straight-loop-network l = Along l.network l.nodes l.initial.p l.initial.out l.begun l.p l.out l.made

abbrev pub decreases-straight-loop-network : goal.decreases-straight-loop-network
decreases-straight-loop-network l = hop_limit - l.made
