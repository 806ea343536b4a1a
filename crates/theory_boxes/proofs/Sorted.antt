-- The boxes that are left, sorted, are those of the blocks in the order of the list of blocks. Assumes nothing.
use Rattle.std.proofs.Common.{◌≡◌, true, List, [], ◌∷◌, map, ℕ, zero, suc, ◌*◌, ◌/◌, ◌%◌, ◌≤◌, ◌<◌, div-add-mod', div-mul-le_self, le-div_iff_mul-le, arith, length}
use Rattle.std.proofs.Math.Nat.{div-zero}
use mathlib.Core.List.Memᴰ
use mathlib.Core.List.Permᴰ
use Rattle.mesh.specs.Mesh.{Mesh}
use Rattle.mesh.specs.Nodes.{bad}
use Rattle.mesh.specs.Rounds.{marked}
use Rattle.mesh.specs.Blocks.{Block, corner, block_at, blocks}
use Rattle.theory_blocks.specs.Obstacles.{Pairs, none, more}
use Rattle.theory_blocks.proofs.Apart.{pairs-map}
use Rattle.theory_blocks.proofs.Selected.{selected-pairs}
use Rattle.theory_boxes.specs.Boxes.{Box, fault_boxes, earlier, sorted, box_of}
use Rattle.theory_boxes.specs.Merging.{Merges}
use Rattle.theory_boxes.proofs.Close.{far-told}
use Rattle.theory_boxes.proofs.Orders.{reordered-mem}
use Rattle.theory_boxes.proofs.Far.{Far}
use Rattle.theory_boxes.proofs.Blocks.{all_lie, box-is-block, block-is-box}
use Rattle.theory_boxes.proofs.Earlier.{Before, Differ, earlier-true}
use Rattle.theory_boxes.proofs.Sorting.{sorted-reordered, sorted-pairs, sorted-same}

-- places in the order of their indices
row-order : (n i j : ℕ) → i ≤ j → i / n ≤ j / n
row-order zero i j h = simp div-zero (omega arith)
row-order (suc n) i j h =
    (le-div_iff_mul-le {k = suc n} {x = i / suc n} {y = j} (omega arith)).1 (omega (arith, div-mul-le_self i (suc n)))

column-order : (n i j : ℕ) → i < j → i / n ≡ j / n → i % n < j % n
column-order n i j h e = omega (arith, rw e at (div-add-mod' i n), div-add-mod' j n)

pairs-boxes : (bs : List Block) → Pairs (λ a b. Before (box_of a) (box_of b)) bs → Pairs Before (map box_of bs)
pairs-boxes [] none = none
pairs-boxes (k ∷ bs) (more h p) =
    more (λ b m. let (x, i, e) = Memᴰ.of_map box_of bs m in rw e at (h x i)) (pairs-boxes bs p)

blocks-sorted : (w : Mesh) → Pairs Before (map box_of (blocks w))
unfolding blocks block_at box_of
blocks-sorted w =
    pairs-boxes (blocks w)
    (selected-pairs (λ i. corner (bad w) (i / w.columns) (i % w.columns))
    (λ i. block_at w.columns w.rows (bad w) (i / w.columns) (i % w.columns))
    (λ a b. Before (box_of a) (box_of b))
    (λ i j h t u. record { rows = row-order w.columns i j (omega arith); columns = column-order w.columns i j h })
    (w.columns * w.rows) 0)

pub blocks-in-order : (w : Mesh) → Pairs (λ a b. earlier a b ≡ true) (map box_of (blocks w))
blocks-in-order w = pairs-map (map box_of (blocks w)) (λ a b i j. earlier-true a b) (blocks-sorted w)

module _ (w : Mesh) (size : length w.map ≡ w.columns * w.rows) {l : List Box} (m : Merges (fault_boxes w) l) (p : Pairs Far l) where
  -- boxes that are far from each other do not begin at the same node
  far-differ : Pairs Differ l
  far-differ =
      pairs-map l
      (λ x y i j f.
      record {
        differ =
            λ e d.
            let s = all_lie w size m x i in
            let t = all_lie w size m y j in
            far-told x y f.far (omega arith);
      })
      p

  pub sorted-blocks : sorted l ≡ map box_of (blocks (marked w))
  sorted-blocks =
      sorted-same (sorted l) _ (sorted-pairs l far-differ) (blocks-sorted (marked w))
      (λ b i. box-is-block w size m p b (reordered-mem (Permᴰ.symm (sorted-reordered l)) i))
      (λ b i.
      let (k, j, e) = Memᴰ.of_map box_of (blocks (marked w)) i in
      reordered-mem (sorted-reordered l) (rw e at (block-is-box w size m p k j)))
