-- What is shown of channels and of the walks along them. Assumes nothing.
use Rattle.std.specs.Prelude.{◌≡◌, Bool, true, false, List, ℕ, ◌+◌, ◌-◌, ◌*◌, ◌<◌, length, Option, Some, None}
use Rattle.mesh.specs.declared.Heading.{Heading}
use Rattle.mesh.specs.declared.Heading.TheVariants.{East as E, North as N, South as S, West as W}
use Rattle.mesh.specs.declared.Network.{Network}
use Rattle.mesh.specs.Mesh.{Mesh, on_mesh}
use Rattle.mesh.specs.Rules.{Trip}
use Rattle.mesh.specs.Hops.{At}
use Rattle.theory_blocks.specs.Blocks.{Neighbour}
use Rattle.theory_channels.specs.Channels.{Channel, end_row, end_column, is_channel}
use Rattle.theory_channels.specs.Waiting.{HandIn, Passed}

-- (r, c) and (x, y) are neighbouring nodes of the mesh
pub record Neighbours (w : Mesh) (r c x y : ℕ) : Type 0 where
  pub first : on_mesh w r c ≡ true
  pub second : on_mesh w x y ≡ true
  pub near : Neighbour r c x y

-- the channel of the mesh from (r, c) to (x, y): there is one, and no other
pub record Link (w : Mesh) (r c x y : ℕ) : Type 0 where
  pub channel : Channel
  pub of-mesh : is_channel w channel ≡ true
  pub from_row : channel.row ≡ r
  pub from-column : channel.column ≡ c
  pub to_row : end_row channel ≡ x
  pub to-column : end_column channel ≡ y
  pub only : (a : Channel) → a.row ≡ r → a.column ≡ c → end_row a ≡ x → end_column a ≡ y → a ≡ channel

-- the hops that are permitted in column c after the last one, l; `west` are the columns that permit NW and SW
pub data Permitted (west : ℕ → Bool) (c : ℕ) : (l : Option Heading) → Heading → Type 0 where
  first : {h : Heading} → Permitted west c None h
  straight : {h : Heading} → Permitted west c (Some h) h
  WN : Permitted west c (Some W) N
  WS : Permitted west c (Some W) S
  NE : Permitted west c (Some N) E
  SE : Permitted west c (Some S) E
  NW : west c ≡ true → Permitted west c (Some N) W
  SW : west c ≡ true → Permitted west c (Some S) W
  EN : west c ≡ false → Permitted west c (Some E) N
  ES : west c ≡ false → Permitted west c (Some E) S

-- a packet on the mesh
pub record OnMesh (t : Trip) (p : At) : Type 0 where
  pub row : p.row < t.rows
  pub column : p.column < t.columns

-- no lawful walk has more hops, and without faults, from two rows on, one has as many: along each column once, and through all columns there and back
abbrev pub most_lawful : ℕ → ℕ → ℕ
most_lawful columns rows = columns * (rows - 1) + 2 * (columns - 1)

-- some hand_in of so many letters is passed
pub record PassedWith (network : Network) (columns rows : ℕ) (map : List ℕ) (n : ℕ) : Type 0 where
  pub hand_in : HandIn
  pub is-passed : Passed network columns rows map hand_in
  pub count : length hand_in.letters ≡ n
