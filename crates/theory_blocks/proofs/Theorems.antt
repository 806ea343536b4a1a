-- What is shown of the marking and the blocks of document 01. Each theorem is proved in the file that its proof cites. Assumes nothing.
use Rattle.std.proofs.Common.{◌≡◌, refl, ap, ◌⊎◌, ◌↔◌, Bool, true, false, List, [], ◌∷◌, ℕ, suc, ◌+◌, ◌-◌, ◌*◌, ◌≤◌, arith, length}
use Rattle.mesh.specs.declared.Place.{Place}
use Rattle.mesh.specs.Mesh.{Mesh, mesh, on_mesh}
use Rattle.mesh.specs.Nodes.{is_bad, how_many, bad, ahead, upright, rule_a, rule_b, unsafe, near_in_row}
use Rattle.mesh.specs.Rounds.{become, advance, round, same_list, settle, marked, rounds}
use Rattle.mesh.specs.Blocks.{run, corner, Block, block_at, select, blocks, on_ring}
use Rattle.mesh.specs.Walk.{detours}
use Rattle.mesh.specs.Cases.{fault_map, L}
use Rattle.mesh.specs.Maps.{allowed}
use Rattle.mesh.specs.Requests.{in_block, block_near_in_row}
use Rattle.mesh.proofs.Index.{few-nodes}
use Rattle.mesh.proofs.Maps.{Accepted}
use Rattle.theory_blocks.specs.Marking.{Closed, Holds}
use Rattle.theory_blocks.specs.Rounds.{unsafe_nodes, FirstQuiet}
use Rattle.theory_blocks.specs.Blocks.{Unjoined, IsBlock, Within, OnRing, Fits, Apart}
use Rattle.theory_blocks.specs.Obstacles.{Listed, OnSomeSide, IsListed, Pairs, ObstaclesOf}
use Rattle.theory_blocks.proofs.Marking.{marked-closed, marked-holds, marked-least}
use Rattle.theory_blocks.proofs.Rounds.{settled-last, rounds-within, marked-quiet, quiet-once, one-round-same, same-one-round, no-faults-quiet}
use Rattle.theory_blocks.proofs.Apart.{listed-apart}
use Rattle.theory_blocks.proofs.Connected.{walled-block, block_listed, apart-unjoined}
use Rattle.theory_blocks.proofs.Listed.{blocks-walled, bad-in-block, blocks-apart, blocks-within}
use Rattle.theory_blocks.proofs.Margins.{allowed-closed, walled-fits}
use Rattle.theory_blocks.proofs.Rings.{on_ring-told, on_ring-true}
use Rattle.theory_blocks.proofs.Near.{near-blocks, near-sides}
use Rattle.theory_blocks.proofs.Detours.{detours-bounded}

-- The ring that computes is the ring.
pub ring-computes : (b : Block) (x y : ℕ) → on_ring b x y ≡ true ↔ OnRing b x y
ring-computes b x y = (on_ring-told b x y, on_ring-true b x y)

-- Of any map with a number for each node.
module _ (w : Mesh) (size : length w.map ≡ w.columns * w.rows) where
  -- the marking holds the faults
  pub marking-holds-faults : Holds (bad w) (bad (marked w))
  marking-holds-faults = marked-holds w size

  -- no rule adds to it
  pub marking-is-closed : Closed w.columns w.rows (bad (marked w))
  marking-is-closed = marked-closed w size

  -- and every closed marking that holds the faults holds it
  pub marking-is-least : (Q : ℕ → ℕ → Bool) → Closed w.columns w.rows Q → Holds (bad w) Q → Holds (bad (marked w)) Q
  marking-is-least = marked-least w size

  -- The number of rounds (document 02, E7): the first round in which nothing changes has it, and that round leaves the marking as it is.
  pub rounds-are-counted : FirstQuiet w (rounds w) (marked w).map
  rounds-are-counted = marked-quiet w size

  -- whoever makes rounds until one changes nothing comes to that number, and to the marking
  pub rounds-by-hand : {n : ℕ} {m : List ℕ} → FirstQuiet w n m → (n ≡ rounds w) × (m ≡ (marked w).map)
  rounds-by-hand q = quiet-once q rounds-are-counted

  -- at most the number of unsafe nodes in the result plus 1
  pub rounds-are-few : rounds w ≤ unsafe_nodes (marked w).map + 1
  rounds-are-few = omega (arith, rounds-within (suc (w.columns * w.rows)) w)

  -- 1 exactly if nothing becomes unsafe
  pub one-round : rounds w ≡ 1 ↔ (marked w).map ≡ w.map
  one-round = (one-round-same w size, same-one-round w size)

  -- without faults it is 1
  pub one-round-without-faults : ((r c : ℕ) → bad w r c ≡ false) → rounds w ≡ 1
  one-round-without-faults none = ap (λ x. x.rounds) (settled-last w (no-faults-quiet w none))

  -- every block (a connected set of bad nodes to which no further one is joined) is a listed rectangle
  pub blocks-are-rectangles : {Set : ℕ → ℕ → Type 0} → IsBlock (bad (marked w)) Set → IsListed (blocks (marked w)) Set
  blocks-are-rectangles =
      block_listed (blocks-walled (marked w) (marked-closed w size)) (bad-in-block (marked w) (marked-closed w size))

  -- every listed rectangle is a block
  pub listed-are-blocks : (b : Block) → Listed b (blocks (marked w)) → IsBlock (bad (marked w)) (Within b)
  listed-are-blocks b m = walled-block (blocks-walled (marked w) (marked-closed w size) b m)

  -- at least 3 apart in column number or 2 in row number: each from each later one
  pub blocks-are-apart : Pairs Apart (blocks (marked w))
  blocks-are-apart = blocks-apart (marked w) (marked-closed w size)

  -- and any two
  pub any-blocks-are-apart : (a b : Block) → Listed a (blocks (marked w)) → Listed b (blocks (marked w)) → (a ≡ b) ⊎ Apart a b
  any-blocks-are-apart = listed-apart blocks-are-apart

  -- no listed block is joined to a later one: the list's length is the number of blocks
  pub each-block-once : Pairs (Unjoined (bad (marked w))) (blocks (marked w))
  each-block-once = apart-unjoined (blocks-walled (marked w) (marked-closed w size)) blocks-are-apart

  -- no place of a ring is bad
  pub ring-is-free : (b : Block) → Listed b (blocks (marked w)) → (x y : ℕ) → OnRing b x y → bad (marked w) x y ≡ false
  ring-is-free b m = (blocks-walled (marked w) (marked-closed w size) b m).ring

  -- faults in the allowed places only: every ring fits the mesh
  pub rings-fit : Holds (bad w) (allowed w.columns w.rows) → (b : Block) → Listed b (blocks (marked w)) → Fits w.columns w.rows b
  rings-fit placed b m =
      walled-fits w.columns w.rows
      (marked-least w size (allowed w.columns w.rows) (allowed-closed w.columns w.rows) placed)
      (blocks-walled (marked w) (marked-closed w size) b m)

-- Of a map that refusals 1 to 5 let pass.
module _ {columns rows : ℕ} {map : List ℕ} (a : Accepted columns rows map) where
  -- all that routing needs of the marking and its blocks
  pub obstacles : ObstaclesOf (marked (mesh columns rows map))
  obstacles =
      let w = mesh columns rows map in
      let closed = marked-closed w a.size in
      record {
        walled = blocks-walled (marked w) closed;
        in-block = bad-in-block (marked w) closed;
        apart = blocks-apart (marked w) closed;
        fits = rings-fit w a.size (record { holds = a.placed });
      }

  -- refusal 8 is a look at four nodes of the row
  pub refusal-8-by-nodes : (p : Place) → let w = marked (mesh columns rows map) in block_near_in_row w p ≡ near_in_row (bad w) p.row.0 p.column.0
  unfolding block_near_in_row
  refusal-8-by-nodes p = near-blocks obstacles p.row.0 p.column.0

  -- outside the blocks it bars the sides of their rings: the rows south and north of a block are no part of them
  pub refusal-8-bars-sides : (p : Place) → let w = marked (mesh columns rows map) in
      in_block w p ≡ false → block_near_in_row w p ≡ true ↔ OnSomeSide (blocks w) p.row.0 p.column.0
  unfolding in_block block_near_in_row
  refusal-8-bars-sides p free = near-sides obstacles p.row.0 p.column.0 free

  -- they are few: their number, beside refusals as 65,536 plus theirs, can't be taken for one
  pub blocks-are-few : length (blocks (marked (mesh columns rows map))) ≤ 4096
  blocks-are-few = omega (arith, blocks-within (marked (mesh columns rows map)), few-nodes columns rows a.few-columns a.few-rows)

  -- the bound on the detours round all blocks
  pub detours-fit : detours (blocks (marked (mesh columns rows map))) ≤ (columns - 2) * (rows - 1)
  detours-fit = detours-bounded obstacles

-- It is reached: 5 columns by 3 rows with fault (1, 2).
pub detours-fill : detours (blocks (marked (mesh 5 3 (0 ∷ 0 ∷ 0 ∷ 0 ∷ 0 ∷ 0 ∷ 0 ∷ 1 ∷ 0 ∷ 0 ∷ 0 ∷ 0 ∷ 0 ∷ 0 ∷ 0 ∷ [])))) ≡ (5 - 2) * (3 - 1)
unfolding on_mesh is_bad bad ahead upright rule_a rule_b unsafe become advance round same_list settle run corner block_at select blocks detours
detours-fill = refl

-- The bound on the rounds is met: five nodes become unsafe, one in each round but the last.
pub rounds-fill : let w = mesh 10 8 (fault_map L) in (rounds w ≡ 6) × (unsafe_nodes (marked w).map + 1 ≡ 6)
unfolding L on_mesh is_bad how_many bad ahead upright rule_a rule_b unsafe become advance round same_list settle
rounds-fill = (refl, refl)
