-- Boxes that merging has left, far from each other, are the boxes of the blocks, and all of these. Assumes nothing.
use Rattle.std.proofs.Common.{◌≡◌, ◌↔◌, inl, inr, true, List, map, ℕ, ◌+◌, ◌-◌, ◌*◌, ◌≤◌, ◌<◌, arith, length}
use mathlib.Core.List.Memᴰ
use mathlib.Core.List.{Memᴰ}
use Rattle.mesh.specs.Mesh.{Mesh}
use Rattle.mesh.specs.Nodes.{bad}
use Rattle.mesh.specs.Rounds.{marked}
use Rattle.mesh.specs.Blocks.{Block, blocks}
use Rattle.theory_blocks.specs.Marking.{Holds}
use Rattle.theory_blocks.specs.Blocks.{Within}
use Rattle.theory_blocks.specs.Obstacles.{Listed, Pairs}
use Rattle.theory_blocks.proofs.Apart.{apart-nodes}
use Rattle.theory_blocks.proofs.Listed.{blocks-walled, bad-in-block}
use Rattle.theory_blocks.proofs.Theorems.{marking-holds-faults, marking-is-closed, marking-is-least, blocks-are-apart, any-blocks-are-apart}
use Rattle.theory_boxes.specs.Boxes.{Box, In, node_box, fault_boxes, box_of}
use Rattle.theory_boxes.specs.Merging.{Merges}
use Rattle.theory_boxes.proofs.Close.{box-ext}
use Rattle.theory_boxes.proofs.Far.{Far}
use Rattle.theory_boxes.proofs.Gathering.{Lies, AllLie, merges-lie, merges-enclose}
use Rattle.theory_boxes.proofs.Covering.{covers, Covered, covers-told, covers-true, holds-near, covers-closed}
use Rattle.theory_boxes.proofs.Faults.{mem-faults, faults-mem}

-- the box of a block
pub block-box : (w : Mesh) → length w.map ≡ w.columns * w.rows → (b : Block) → Listed b (blocks (marked w)) → (r c : ℕ) →
    In (box_of b) r c ↔ Within b r c
unfolding box_of
block-box w size b i r c = let wall = blocks-walled (marked w) (marking-is-closed w size) b i in omega arith

module _ (w : Mesh) (size : length w.map ≡ w.columns * w.rows) {l : List Box} (m : Merges (fault_boxes w) l) where
  abbrev bs : List Block
  bs = blocks (marked w)

  -- a fault lies in a block, and so does whatever merging makes of it
  fault-lies : AllLie bs (fault_boxes w)
  unfolding node_box
  fault-lies b i =
      let f = mem-faults w size b i in
      let k = bad-in-block (marked w) (marking-is-closed w size) _ _ ((marking-holds-faults w size).holds _ _ f.is-bad) in
      rw f.is
      (record { tall = omega arith; wide = omega arith; block = k.block; listed = k.listed; low = k.within; high = k.within })

  pub all_lie : AllLie bs l
  all_lie = merges-lie (blocks-are-apart w size) m fault-lies

  module _ (p : Pairs Far l) where
    -- the boxes hold the faults, and so the marking
    faults-covered : Holds (bad w) (covers l)
    unfolding node_box
    faults-covered =
        record {
          holds =
              λ r c e.
              let k = merges-enclose m (node_box r c) (faults-mem w size r c e) in
              let n = k.encloses in
              covers-true r c l k.box k.member (omega arith);
        }

    bad-covered : (r c : ℕ) → bad (marked w) r c ≡ true → Covered l r c
    bad-covered r c e =
        covers-told r c l ((marking-is-least w size (covers l) (covers-closed p w.columns w.rows) faults-covered).holds r c e)

    -- a node of a box's block, at most 1 row and 2 columns from the box, is the box's own
    own : (b : Box) → Memᴰ b l → (t : Lies bs b) (x y : ℕ) → Within t.block x y × (b.low-row ≤ x + 1) × (x ≤ b.high-row + 1) ×
        (b.low_column ≤ y + 2) × (y ≤ b.high-column + 2) → In b x y
    own b i t x y (within, s, n, w', e) =
        let wall = blocks-walled (marked w) (marking-is-closed w size) t.block t.listed in
        holds-near p b i (bad-covered x y (wall.inside x y within)) s n w' e

    -- so the box fills the block
    fills : (b : Box) → Memᴰ b l → (t : Lies bs b) → b ≡ box_of t.block
    unfolding box_of
    fills b i t =
        let k = t.block in
        let own' = own b i t in
        let south : ¬ (k.row < b.low-row) = λ h. let n = own' (b.low-row - 1) b.low_column (omega arith) in omega arith in
        let north : ¬ (b.high-row + 1 < k.height + k.row) = λ h. let n = own' (b.high-row + 1) b.low_column (omega arith) in omega arith in
        let west : ¬ (k.column < b.low_column) = λ h. let n = own' b.low-row (b.low_column - 1) (omega arith) in omega arith in
        let east : ¬ (b.high-column + 1 < k.width + k.column) = λ h. let n = own' b.low-row (b.high-column + 1) (omega arith) in omega arith in
        box-ext b _ (omega arith) (omega arith) (omega arith) (omega arith)

    pub box-is-block : (b : Box) → Memᴰ b l → Memᴰ b (map box_of bs)
    box-is-block b i = let t = all_lie b i in rw (fills b i t) (Memᴰ.map box_of t.listed)

    pub block-is-box : (k : Block) → Listed k bs → Memᴰ (box_of k) l
    block-is-box k i =
        let wall = blocks-walled (marked w) (marking-is-closed w size) k i in
        let corner : Within k k.row k.column = omega arith in
        let c = bad-covered k.row k.column (wall.inside k.row k.column corner) in
        let t = all_lie c.box c.member in
        let q : t.block ≡ k =
        elim (any-blocks-are-apart w size t.block k t.listed i)
        [ inl e ↦ e | inr h ↦ absurd (apart-nodes h k.row k.column (omega arith) corner) ] in
        rw (fills c.box c.member t, q) at c.member
