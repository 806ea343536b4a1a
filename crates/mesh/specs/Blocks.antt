-- The blocks of a marked mesh and their rings (document 01, "Blocks and rings"). Assumes nothing.
use Rattle.std.specs.Prelude.{Bool, true, false, not, cond, ◌&&◌, ◌||◌, List, [], ◌∷◌, ℕ, zero, suc, ◌+◌, ◌*◌, ◌/◌, ◌%◌, leb, ltb}
use Rattle.mesh.specs.Mesh.{Mesh}
use Rattle.mesh.specs.Headings.{S, W}
use Rattle.mesh.specs.Nodes.{bad, ahead}

-- a block, by its south-west node and its numbers of rows and columns
pub record Block : Type 0 where
  pub row : ℕ
  pub column : ℕ
  pub height : ℕ
  pub width : ℕ

abbrev pub count : Bool → ℕ → ℕ
count true n = suc n
count false n = 0

-- how many of P c, P (c + 1), .. hold in a row, of the first k
unfoldable pub run : ℕ → (ℕ → Bool) → ℕ → ℕ
run zero P c = 0
run (suc k) P c =
    let on = run k P (suc c) in
    count (P c) on

-- a south-west corner: bad, and neither its west nor its south neighbour is
unfoldable pub corner : (ℕ → ℕ → Bool) → ℕ → ℕ → Bool
corner B r c = B r c && not (ahead B W 1 r c || ahead B S 1 r c)

-- the block from that corner: as far as the bad nodes go north and east of it
unfoldable pub block_at : ℕ → ℕ → (ℕ → ℕ → Bool) → ℕ → ℕ → Block
block_at columns rows B r c =
    record { row = r; column = c; height = run rows (λ x. B x c) r; width = run columns (B r) c }

-- those f i, f (i + 1), .., of the first n, whose t i holds
unfoldable pub select : {A : Type 0} → (ℕ → Bool) → (ℕ → A) → ℕ → ℕ → List A
select t f zero i = []
select t f (suc n) i =
    let rest = select t f n (suc i) in
    let more = f i ∷ rest in
    cond (t i) more rest

-- The blocks of a marked mesh, by their corners. That these are exactly its maximal connected sets of bad nodes is shown in theory_blocks.
unfoldable pub blocks : Mesh → List Block
blocks w =
    select (λ i. corner (bad w) (i / w.columns) (i % w.columns))
    (λ i. block_at w.columns w.rows (bad w) (i / w.columns) (i % w.columns))
    (w.columns * w.rows)
    0

-- (r, c) lies in b with its surroundings: so many rows below and above, so many columns west and east
unfoldable pub reaches : ℕ → ℕ → Block → ℕ → ℕ → Bool
reaches i j b r c =
    (leb b.row (r + i) && ltb r (b.height + b.row + i)) && (leb b.column (c + j) && ltb c (b.width + b.column + j))

-- (r, c) is a node of b
abbrev pub within : Block → ℕ → ℕ → Bool
within b r c = reaches 0 0 b r c

-- b's ring: all places outside it, from one row below to one row above, and from two columns west to two columns east
unfoldable pub on_ring : Block → ℕ → ℕ → Bool
on_ring b r c = reaches 1 2 b r c && not (within b r c)

-- some block of a list passes a test
unfoldable pub some_block : (Block → Bool) → List Block → Bool
some_block t [] = false
some_block t (b ∷ bs) = t b || some_block t bs
