-- Where a packet is after n hops one way, what moving it so asks, and how far the way is free. Assumes nothing.
use Rattle.std.specs.Prelude.{◌≡◌, Bool, true, false, ℕ, ◌+◌, ◌-◌, ◌≤◌, ◌<◌, Some}
use Rattle.mesh.specs.declared.Heading.{Heading}
use Rattle.mesh.specs.declared.Heading.TheVariants.{East as E, North as N, South as S, West as W}
use Rattle.mesh.specs.declared.Packet.{Packet}
use Rattle.mesh.specs.Hops.{packet_at}

-- n times the next node that way
unfoldable pub row_by : Heading → ℕ → ℕ → ℕ
row_by E n r = r
row_by N n r = r + n
row_by S n r = r - n
row_by W n r = r

unfoldable pub column_by : Heading → ℕ → ℕ → ℕ
column_by E n c = c + n
column_by N n c = c
column_by S n c = c
column_by W n c = c - n

-- the record after n hops that way, of which there is at least one
unfoldable pub moved_by : Heading → ℕ → Packet → Packet
moved_by h n p =
    packet_at (record { row = row_by h n p.place.row.0; column = column_by h n p.place.column.0; last = Some h }) p.destination

-- the numbers of that place can be had
pub record Lands (h : Heading) (n r c : ℕ) : Type 0 where
  pub row : r < 64
  pub column : c < 64
  pub hops : n < 65536
  pub south : h ≡ S → n ≤ r
  pub west : h ≡ W → n ≤ c

-- all n nodes that way are on the mesh
pub record Reaches (columns rows : ℕ) (h : Heading) (n r c : ℕ) : Type 0 where
  pub row : r < rows
  pub column : c < columns
  pub east : h ≡ E → c + n < columns
  pub north : h ≡ N → r + n < rows
  pub south : h ≡ S → n ≤ r
  pub west : h ≡ W → n ≤ c
  pub hops : n < 64

-- x of the next n nodes that way lie before the first bad one
pub record Free (B : ℕ → ℕ → Bool) (h : Heading) (n r c x : ℕ) : Type 0 where
  pub most : x ≤ n
  pub free : (i : ℕ) → 1 ≤ i → i ≤ x → B (row_by h i r) (column_by h i c) ≡ false
  pub ends : x < n → B (row_by h (x + 1) r) (column_by h (x + 1) c) ≡ true
