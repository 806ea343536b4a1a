-- A hop: the place that it leads to, whether it is lawful, and the packet's record after it (document 01, "Turns", "What demand 3 compares").
-- Assumes nothing.
use Rattle.std.specs.Prelude.{Bool, not, ◌&&◌, ℕ, ◌+◌, leb, ltb, eqb, Option, Some, None}
use Rattle.mesh.specs.declared.Network.{Network}
use Rattle.mesh.specs.declared.Packet.{Packet}
use Rattle.mesh.specs.declared.Place.{Place}
use Rattle.mesh.specs.Mesh.{Mesh, place}
use Rattle.mesh.specs.Headings.{Heading, E, N, S, W, row_after, column_after}
use Rattle.mesh.specs.Turns.{may_turn}
use Rattle.mesh.specs.Rules.{Trip, trip_on, blocked}

-- where a packet is, and its last hop
pub record At : Type 0 where
  pub row : ℕ
  pub column : ℕ
  pub last : Option Heading

-- at the source: no hop is made yet
abbrev pub fresh : Place → At
fresh s = record { row = s.row.0; column = s.column.0; last = None }

-- the place becomes the next node that way, and that hop is the last hop
unfoldable pub moved : Heading → At → At
moved h p = record { row = row_after h p.row; column = column_after h p.column; last = Some h }

-- a hop that way stays on the mesh
unfoldable pub stays : ℕ → ℕ → Heading → ℕ → ℕ → Bool
stays columns rows E r c = ltb (c + 1) columns
stays columns rows N r c = ltb (r + 1) rows
stays columns rows S r c = leb 1 r
stays columns rows W r c = leb 1 c

-- lawful: the hop stays on the mesh, enters no block, is no reversal and no forbidden turn
unfoldable pub lawful : Trip → At → Heading → Bool
lawful t p h =
    stays t.columns t.rows h p.row p.column && (not (blocked t h 1 p.row p.column) && may_turn t.west p.column p.last h)

-- The packet's record.

-- where it is, and its last hop
abbrev pub at : Packet → At
at p = record { row = p.place.row.0; column = p.place.column.0; last = p.last }

-- its trip on a marked mesh, with the turns of a network
abbrev pub trip_of : Network → Mesh → Packet → Trip
trip_of n w p = trip_on n w p.destination

-- it is at its destination
unfoldable pub is_there : Packet → Bool
is_there p =
    eqb p.place.row.0 p.destination.row.0 && eqb p.place.column.0 p.destination.column.0

abbrev pub packet_at : At → Place → Packet
packet_at a d = record { place = place a.row a.column; last = a.last; destination = d }

-- the record after a hop
abbrev pub moved_packet : Heading → Packet → Packet
moved_packet h p = packet_at (moved h (at p)) p.destination
