-- What a test of a hop says. Assumes nothing.
use Rattle.mesh.specs.declared.Mistake.{Mistake}
use Rattle.std.specs.Prelude.{◌≡◌, cond, Some, Result, Ok, Err}
use Rattle.mesh.specs.declared.Heading.{Heading}
use Rattle.mesh.specs.declared.Mistake.TheVariants.{EntersBlock}
use Rattle.mesh.specs.declared.Network.{Network}
use Rattle.mesh.specs.declared.Packet.{Packet}
use Rattle.mesh.specs.Mesh.{Mesh}
use Rattle.mesh.specs.Numbers.{tested_number}
use Rattle.mesh.specs.Nodes.{bad}
use Rattle.mesh.specs.Hops.{at, trip_of, moved_packet}
use Rattle.mesh.specs.Judging.{letter_mistake}

-- the last test, of the packet after the hop: it enters a block, or it is lawful
unfoldable pub entered : Mesh → Packet → Result Packet Mistake
entered w q = cond (bad w q.place.row.0 q.place.column.0) (Err EntersBlock) (Ok q)

-- what is wrong with it on a network, and after a lawful hop the packet
pub record Tests (network : Network) (w : Mesh) (p : Packet) (h : Heading) (x : Result Packet Mistake) : Type 0 where
  pub told : tested_number x ≡ letter_mistake (trip_of network w p) (at p) (Some h)
  pub onward : {after : Packet} → x ≡ Ok after → after ≡ moved_packet h p
