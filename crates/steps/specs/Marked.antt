-- Moving on, on a marking already made. Assumes nothing.
use Rattle.std.specs.Prelude.{◌≡◌, ℕ, Option, Some, None, Result, Ok, Err}
use Rattle.mesh.specs.declared.Heading.{Heading}
use Rattle.mesh.specs.declared.Network.{Network}
use Rattle.mesh.specs.declared.Packet.{Packet}
use Rattle.mesh.specs.declared.Refusal.{Refusal}
use Rattle.mesh.specs.Mesh.{Mesh}
use Rattle.mesh.specs.Moving.{moved_told, told, record_after}

-- the answer and the record after it, where refusal k applies, or none (k is 0)
pub record Moves (k : ℕ) (network : Network) (w : Mesh) (p : Packet) (m : Result (Option Heading) Refusal) (after : Packet) : Type 0 where
  pub answers : moved_told m ≡ told k network w p
  pub leaves : after ≡ record_after k network w p

-- the answer by the packet after a hop, or none where it has arrived: its last hop is the one made
abbrev pub answer_of : Result (Option Packet) Refusal → Result (Option Heading) Refusal
answer_of (Ok (Some q)) = Ok q.last
answer_of (Ok None) = Ok None
answer_of (Err why) = Err why

-- and the record of packet p: another only after a hop
abbrev pub record_of : Packet → Result (Option Packet) Refusal → Packet
record_of p (Ok (Some q)) = q
record_of p (Ok None) = p
record_of p (Err why) = p
