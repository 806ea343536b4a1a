-- Connected sets of bad nodes, rectangles and their rings. Assumes nothing.
use Rattle.std.specs.Prelude.{◌≡◌, Bool, true, ℕ, suc, ◌+◌, ◌≤◌, ◌<◌}
use Rattle.mesh.specs.Blocks.{Block}

-- (x, y) is the north, south, east or west neighbour of (r, c)
pub data Neighbour : ℕ → ℕ → ℕ → ℕ → Type 0 where
  north : {r c : ℕ} → Neighbour r c (suc r) c
  south : {r c : ℕ} → Neighbour (suc r) c r c
  east : {r c : ℕ} → Neighbour r c r (suc c)
  west : {r c : ℕ} → Neighbour r (suc c) r c

-- (x, y) is joined to (r, c) in a set of nodes: reached from neighbour to neighbour through nodes of the set
pub data Joined (Set : ℕ → ℕ → Type 0) (r c : ℕ) : ℕ → ℕ → Type 0 where
  here : Set r c → Joined Set r c r c
  go : {x y x' y' : ℕ} → Joined Set r c x y → Neighbour x y x' y' → Set x' y' → Joined Set r c x' y'

-- a block: a connected set of bad nodes to which no further bad node is joined
pub record IsBlock (B : ℕ → ℕ → Bool) (Set : ℕ → ℕ → Type 0) : Type 0 where
  pub row : ℕ
  pub column : ℕ
  pub member : Set row column
  pub are-bad : (x y : ℕ) → Set x y → B x y ≡ true
  pub connected : (r c x y : ℕ) → Set r c → Set x y → Joined Set r c x y
  pub no-further : {r c x y : ℕ} → Set r c → Neighbour r c x y → B x y ≡ true → Set x y

-- (r, c) lies in the rectangle b with so many rows below and above it and so many columns west and east of it
pub record Reaches (i j : ℕ) (b : Block) (r c : ℕ) : Type 0 where
  pub south : b.row ≤ r + i
  pub north : r < b.height + b.row + i
  pub west : b.column ≤ c + j
  pub east : c < b.width + b.column + j

-- (r, c) is a node of b
abbrev pub Within : Block → ℕ → ℕ → Type 0
Within b r c = Reaches 0 0 b r c

-- no node of a is joined to a node of b through bad nodes
pub record Unjoined (B : ℕ → ℕ → Bool) (a b : Block) : Type 0 where
  pub unjoined : (r c x y : ℕ) → Within a r c → Within b x y → Joined (λ x y. B x y ≡ true) r c x y → ⊥

-- (r, c) is a place of b's ring
pub record OnRing (b : Block) (r c : ℕ) : Type 0 where
  pub near : Reaches 1 2 b r c
  pub outside : Within b r c → ⊥

-- (r, c) is a place of b's ring in a row of b: on its west or east side
pub record OnSide (b : Block) (r c : ℕ) : Type 0 where
  pub on-ring : OnRing b r c
  pub in_row : (b.row ≤ r) × (r < b.height + b.row)

-- the ring fits the mesh
pub record Fits (columns rows : ℕ) (b : Block) : Type 0 where
  pub south : 1 ≤ b.row
  pub north : b.height + b.row + 1 ≤ rows
  pub west : 2 ≤ b.column
  pub east : b.width + b.column + 2 ≤ columns

-- at least 3 apart in column number, or at least 2 apart in row number: b lies east of a, west, north or south
pub data Apart (a b : Block) : Type 0 where
  by-east : a.width + a.column + 2 ≤ b.column → Apart a b
  by-west : b.width + b.column + 2 ≤ a.column → Apart a b
  by-north : a.height + a.row + 1 ≤ b.row → Apart a b
  by-south : b.height + b.row + 1 ≤ a.row → Apart a b
