-- A packet and its destination's row. Assumes nothing.
use Rattle.std.specs.Prelude.{Bool, cond, ltb, eqb}
use Rattle.mesh.specs.declared.Heading.TheVariants.{North as N, South as S}
use Rattle.mesh.specs.declared.Packet.{Packet}
use Rattle.mesh.specs.Headings.{last_is}

-- the packet is in its destination's row
unfoldable pub in_its_row : Packet → Bool
in_its_row p = eqb p.place.row.0 p.destination.row.0

-- its last hop leads toward that row
unfoldable pub nears_row : Packet → Bool
nears_row p = last_is p.last (cond (ltb p.place.row.0 p.destination.row.0) N S)
