-- What the two modes ask and promise: the rest of a walk, its letters from index made on. Assumes nothing.
use Rattle.std.specs.Prelude.{◌≡◌, true, List, ℕ, suc, ◌+◌, ◌-◌, ◌<◌, length}
use Rattle.mesh.specs.declared.Heading.{Heading}
use Rattle.mesh.specs.declared.Network.{Network}
use Rattle.mesh.specs.declared.Packet.{Packet}
use Rattle.mesh.specs.Mesh.{Mesh}
use Rattle.mesh.specs.Headings.{letters}
use Rattle.mesh.specs.Rules.{Trip}
use Rattle.mesh.specs.Hops.{At, at, trip_of}
use Rattle.mesh.specs.Walk.{lawful_route, walk}
use Rattle.theory_walk.specs.Claims.{most_hops}
use Rattle.buffers.specs.Over.{over}
use Rattle.travel.specs.Straight.{BothOnMesh}

-- fewer than n hops by the rules lead lawfully to the destination
pub record Leads (n : ℕ) (t : Trip) (p : At) : Type 0 where
  pub lawfully : lawful_route t p (walk n t p) ≡ true
  pub enough : length (walk n t p) < n

-- more hops than any route has, on any mesh
abbrev pub hop_limit : ℕ
hop_limit = suc most_hops

-- the hops that are left where so many are made
abbrev pub rest : ℕ → Network → Mesh → Packet → List Heading
rest made network w p = walk (hop_limit - made) (trip_of network w p) (at p)

-- the packet is on the mesh, and within the limit hops lead to its destination, which is on it too
pub record Going (network : Network) (w : Mesh) (p : Packet) (made : ℕ) : Type 0 where
  pub on-mesh : BothOnMesh w p
  pub leads : Leads (hop_limit - made) (trip_of network w p) (at p)

-- the hops are counted, and their letters written where there is room for them
pub record Follows (network : Network) (w : Mesh) (p : Packet) (out : List ℕ) (made x : ℕ) (after : List ℕ) : Type 0 where
  pub counts : x ≡ made + length (rest made network w p)
  pub writes : after ≡ over out made (letters (rest made network w p))
