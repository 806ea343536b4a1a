-- What a leg is: hops by the rules that are all the same. Assumes nothing.
use Rattle.std.specs.Prelude.{◌≡◌, Bool, true, false, ◌||◌, ℕ, zero, suc, ◌<◌}
use Rattle.mesh.specs.declared.Heading.{Heading}
use Rattle.mesh.specs.declared.Network.{Network}
use Rattle.mesh.specs.declared.Packet.{Packet}
use Rattle.mesh.specs.Mesh.{Mesh}
use Rattle.mesh.specs.Rules.{stopped}
use Rattle.mesh.specs.Hops.{trip_of, is_there, moved_packet}
use Rattle.mesh.specs.Moving.{hop_from}
use Rattle.nodes.specs.Sized.{OnMesh}
use Rattle.rules.specs.Rows.{in_its_row, nears_row}

-- the packet travels straight from here: it is in its destination's row, or its last hop leads toward that row
abbrev pub goes_straight : Packet → Bool
goes_straight p = in_its_row p || nears_row p

-- the packet and its destination are on the mesh
pub record BothOnMesh (w : Mesh) (p : Packet) : Type 0 where
  pub here : OnMesh w p.place
  pub there : OnMesh w p.destination

-- the record after i hops that way, one after another
unfoldable pub after : ℕ → Heading → Packet → Packet
after zero h p = p
after (suc i) h p = after i h (moved_packet h p)

-- the next n hops by the rules are all that way, and none begins at the destination
pub record Runs (network : Network) (w : Mesh) (h : Heading) (n : ℕ) (p : Packet) : Type 0 where
  pub away : (i : ℕ) → i < n → is_there (after i h p) ≡ false
  pub hops : (i : ℕ) → i < n → h ≡ hop_from network w (after i h p)

-- n hops to the side are made before the packet is there or stopped; it is stopped at once if they are none
pub record Unstopped (network : Network) (w : Mesh) (s : Heading) (n : ℕ) (p : Packet) : Type 0 where
  pub runs : Runs network w s n p
  pub stops : n ≡ 0 → stopped (trip_of network w p) p.place.row.0 p.place.column.0 ≡ true
