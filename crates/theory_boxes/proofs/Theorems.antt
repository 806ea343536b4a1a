-- What is shown of blocks from rectangles (document 02, E10). Each theorem is proved in the file that its proof cites. Assumes nothing.
use Rattle.std.proofs.Common.{Result, ◌≡◌, ap, sym, ◌∙◌, ◌↔◌, true, false, List, map, ℕ, suc, ◌*◌, ◌≤◌, ◌<◌, arith, length, get_or, take}
use Rattle.std.proofs.lemmas.List.{length-map}
use Rattle.mesh.specs.declared.Refusal.{Refusal}
use Rattle.mesh.specs.Mesh.{Mesh, mesh}
use Rattle.mesh.specs.Tests.{first}
use Rattle.mesh.specs.Nodes.{how_many}
use Rattle.mesh.specs.Rounds.{marked}
use Rattle.mesh.specs.Blocks.{Block, blocks}
use Rattle.mesh.specs.Maps.{map_tests}
use Rattle.mesh.proofs.Maps.{Accepted}
use Rattle.theory_blocks.specs.Blocks.{Within}
use Rattle.theory_blocks.specs.Obstacles.{Listed, Pairs}
use Rattle.theory_blocks.proofs.Theorems.{blocks-are-few}
use Rattle.theory_boxes.specs.Boxes.{Box, In, fault_boxes, some_close, merge_two, merge_all, earlier, sorted, boxes, box_of}
use Rattle.theory_boxes.specs.Merging.{Replaced, Merges}
use Rattle.theory_boxes.specs.Boxing.{numbers, room_for, box_list, box_refusal, ListsBoxes}
use Rattle.theory_boxes.proofs.Orders.{replaced-shorter}
use Rattle.theory_boxes.proofs.Far.{none-close}
use Rattle.theory_boxes.proofs.Merging.{two-replaced, all-merges, all-far}
use Rattle.theory_boxes.proofs.Faults.{faults-counted}
use Rattle.theory_boxes.proofs.Blocks.{block-box}
use Rattle.theory_boxes.proofs.Sorted.{blocks-in-order, sorted-blocks}
use Rattle.theory_boxes.proofs.Room.{numbers_fit, list-sized, room-refused}
use Rattle.theory_boxes.proofs.Boxing.{refused-leaves, length-stays, front-numbers, zeros-after, rest-left}

-- The merging of the definitions: each time two boxes that are close are replaced by the one around both;
pub merge-replaces-two : (l : List Box) → some_close l ≡ true → Replaced l (merge_two l)
merge-replaces-two = two-replaced

-- whichever two they are, a box less is left;
pub each-merge-leaves-one-less : {l m : List Box} → Replaced l m → length l ≡ suc (length m)
each-merge-leaves-one-less = replaced-shorter

-- nothing else is done to the boxes;
pub merging-only : (l : List Box) → Merges l (merge_all (length l) l)
merging-only l = all-merges (length l) l

-- and at the end none are close.
pub merging-ends : (l : List Box) → some_close (merge_all (length l) l) ≡ false
merging-ends l = all-far (length l) l (omega arith)

-- Of any map with a number for each node.
module _ (w : Mesh) (size : length w.map ≡ w.columns * w.rows) where
  -- the boxes are exactly the blocks of the marking, in the same order
  pub boxes-are-blocks : boxes w ≡ map box_of (blocks (marked w))
  unfolding boxes
  boxes-are-blocks = sorted-blocks w size (merging-only (fault_boxes w)) (none-close _ (all-far (length (fault_boxes w)) (fault_boxes w) (omega arith)))

  -- whichever two close boxes are replaced next, the same boxes are left
  pub any_order : {l : List Box} → Merges (fault_boxes w) l → some_close l ≡ false → sorted l ≡ boxes w
  any_order {l} m e = sorted-blocks w size m (none-close l e) ∙ sym boxes-are-blocks

  -- as many as blocks
  pub as-many-as-blocks : length (boxes w) ≡ length (blocks (marked w))
  as-many-as-blocks = ap length boxes-are-blocks ∙ length-map (blocks (marked w)) box_of

  -- the box of a block has the block's nodes
  pub box-nodes : (b : Block) → Listed b (blocks (marked w)) → (r c : ℕ) → In (box_of b) r c ↔ Within b r c
  box-nodes = block-box w size

  -- each box comes before the later ones: by lowest row, then lowest column
  pub boxes-are-in-order : Pairs (λ a b. earlier a b ≡ true) (boxes w)
  boxes-are-in-order = rw boxes-are-blocks (blocks-in-order (marked w))

-- Of a map that refusals 1 to 5 let pass.
module _ {columns rows : ℕ} {map : List ℕ} (a : Accepted columns rows map) where
  -- merging begins with a box for each fault
  pub faults-are-boxes : length (fault_boxes (mesh columns rows map)) ≡ how_many 1 map
  faults-are-boxes = faults-counted a

  -- four numbers for each box that is left are no more than four for each fault
  pub boxes-have-room : 4 * length (boxes (mesh columns rows map)) ≤ room_for map
  boxes-have-room = numbers_fit a

  -- so the list has four numbers for each fault
  pub list_length : length (box_list (mesh columns rows map)) ≡ room_for map
  list_length = list-sized a

  -- they are few: their number, beside refusals as 65,536 plus theirs, can't be taken for one
  pub boxes-are-few : length (boxes (mesh columns rows map)) ≤ 4096
  boxes-are-few = rw (as-many-as-blocks (mesh columns rows map) a.size) (blocks-are-few a)

-- Refusal 10 applies exactly if 1 to 5 don't and the list is shorter than four numbers for each fault.
pub refusal-10 : (columns rows : ℕ) (map list : List ℕ) →
    box_refusal columns rows map list ≡ 10 ↔ ((first (map_tests columns rows map) ≡ 0) × (length list < 4 * how_many 1 map))
unfolding room_for
refusal-10 = room-refused

-- The list after a call that keeps its promise.
module _ {columns rows : ℕ} {map list : List ℕ} {r : Result ℕ Refusal} {after : List ℕ} (does : ListsBoxes columns rows map list r after) where
  -- where a refusal applies, nothing is changed
  pub refusal-leaves : {k : ℕ} → box_refusal columns rows map list ≡ suc k → after ≡ list
  refusal-leaves = refused-leaves does

  -- where none does:
  module _ (passes : box_refusal columns rows map list ≡ 0) where
    -- it is as long as before
    pub length-is-left : length after ≡ length list
    length-is-left = length-stays does passes

    -- the boxes' numbers stand in front
    pub boxes-stand : let bs = boxes (mesh columns rows map) in take (4 * length bs) after ≡ numbers bs
    boxes-stand = front-numbers does passes

    -- places after the last box, up to four for each fault, are 0
    pub rest-is-zero : (j : ℕ) → 4 * length (boxes (mesh columns rows map)) ≤ j → j < room_for map → get_or after j 0 ≡ 0
    rest-is-zero = zeros-after does passes

    -- later ones are untouched
    pub beyond-is-left : (j : ℕ) → room_for map ≤ j → get_or after j 0 ≡ get_or list j 0
    beyond-is-left = rest-left does passes
