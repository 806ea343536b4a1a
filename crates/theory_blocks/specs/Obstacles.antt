-- All that routing sees of a marking: a list of rectangles of bad nodes, with nothing bad in their rings. Assumes nothing.
use Rattle.std.specs.Prelude.{◌≡◌, ◌↔◌, Bool, true, false, ℕ, ◌<◌, List, [], ◌∷◌}
use mathlib.Core.List.{Memᴰ}
use Rattle.mesh.specs.Mesh.{Mesh}
use Rattle.mesh.specs.Nodes.{bad}
use Rattle.mesh.specs.Blocks.{Block, blocks}
use Rattle.theory_blocks.specs.Blocks.{Within, OnRing, OnSide, Fits, Apart}

abbrev pub Listed : Block → List Block → Type 0
Listed b bs = Memᴰ b bs

-- a rectangle of bad nodes, none of its ring's places bad
pub record Walled (B : ℕ → ℕ → Bool) (b : Block) : Type 0 where
  pub tall : 0 < b.height
  pub wide : 0 < b.width
  pub inside : (x y : ℕ) → Within b x y → B x y ≡ true
  pub ring : (x y : ℕ) → OnRing b x y → B x y ≡ false

-- a listed block holds (x, y)
pub record InBlock (bs : List Block) (x y : ℕ) : Type 0 where
  pub block : Block
  pub listed : Listed block bs
  pub within : Within block x y

-- (x, y) is on a side of a listed block's ring
pub record OnSomeSide (bs : List Block) (x y : ℕ) : Type 0 where
  pub block : Block
  pub listed : Listed block bs
  pub side : OnSide block x y

-- a set of nodes is a listed block's
pub record IsListed (bs : List Block) (Set : ℕ → ℕ → Type 0) : Type 0 where
  pub block : Block
  pub listed : Listed block bs
  pub nodes : (x y : ℕ) → Set x y ↔ Within block x y

-- R between each member of a list and each later one
pub data Pairs {A : Type 0} (R : A → A → Type 0) : List A → Type 0 where
  none : Pairs R []
  more : {a : A} {rest : List A} → ((b : A) → Memᴰ b rest → R a b) → Pairs R rest → Pairs R (a ∷ rest)

-- bs are the blocks of B, on a mesh that has room for their rings
pub record Obstacles (columns rows : ℕ) (B : ℕ → ℕ → Bool) (bs : List Block) : Type 0 where
  pub walled : (b : Block) → Listed b bs → Walled B b
  pub in-block : (x y : ℕ) → B x y ≡ true → InBlock bs x y
  pub apart : Pairs Apart bs
  pub fits : (b : Block) → Listed b bs → Fits columns rows b

-- a marked mesh as routing sees it
abbrev pub ObstaclesOf : Mesh → Type 0
ObstaclesOf w = Obstacles w.columns w.rows (bad w) (blocks w)
