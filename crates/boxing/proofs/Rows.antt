-- Faults of a row that are close are merged to one box. Assumes nothing.
use mathlib.Core.Path.{◌≡◌, ◌∙◌}
use mathlib.Core.Bool.{true}
use mathlib.Core.List.Permᴰ
use mathlib.Core.List.{List, ◌∷◌}
use Prim.Native.Nat.{ℕ, ◌+◌, ◌-◌, ◌*◌, ◌/◌, ◌%◌, ◌≤◌, ◌<◌}
use native.Mathlib.Omega.{arith}
use lib.ListN.{length, get_or}
use Rattle.mesh.specs.Mesh.{mesh}
use Rattle.mesh.specs.Nodes.{is_bad}
use Rattle.mesh.proofs.Index.{index-row, index-column}
use Rattle.nodes.specs.Sized.{Sized}
use Rattle.nodes.proofs.Lookup.{row_fits}
use Rattle.theory_boxes.specs.Boxes.{node_box, close, around}
use Rattle.theory_boxes.specs.Merging.{Merges, begin}
use Rattle.theory_boxes.proofs.Close.{close-true, box-ext}
use Rattle.theory_boxes.proofs.Orders.{merges-trans, merges-pair}
use Rattle.faults.specs.Groups.{Next, Chain, alone, more}
use Rattle.boxes.specs.Corners.{row_box}
use Rattle.boxing.specs.Steps.{faults_from}
use Rattle.boxing.proofs.Faults.{from-fault, from-later}

module _ (r x y z : ℕ) (h : y < z) (near : z < y + 3) where
  row-close : x ≤ y → close (row_box r x y) (row_box r z z) ≡ true
  unfolding row_box
  row-close p = close-true _ _ (omega arith)

  row-around : x ≤ y → around (row_box r x y) (row_box r z z) ≡ row_box r x z
  unfolding around row_box
  row-around p = box-ext _ _ (omega arith) (omega arith) (omega arith) (omega arith)

pub chain-from : {map : List ℕ} {end i last : ℕ} → Chain map end i last → i ≤ last
chain-from (alone h) = omega arith
chain-from (more g n) = omega (arith, chain-from g, n.later)

module _ (columns rows : ℕ) (map : List ℕ) (sized : Sized columns rows map) (r : ℕ) (on : r < rows) where
  abbrev start : ℕ
  start = r * columns

  row_ends : start + columns ≤ length map
  row_ends = (row_fits sized on).0

  -- the nodes of the row, by their columns
  node : (i : ℕ) → start ≤ i → i < start + columns → node_box (i / columns) (i % columns) ≡ row_box r (i - start) (i - start)
  unfolding node_box row_box
  node i p q =
      let e : start + (i - start) ≡ i = omega arith in
      let u : i / columns ≡ r = rw e at (index-row columns r (i - start) (omega arith)) in
      let v : i % columns ≡ i - start = rw e at (index-column columns r (i - start) (omega arith)) in
      rw (u, v)

  fault-here : (i : ℕ) → start ≤ i → i < start + columns → is_bad (get_or map i 0) ≡ true →
      faults_from (mesh columns rows map) i ≡ row_box r (i - start) (i - start) ∷ faults_from (mesh columns rows map) (i + 1)
  fault-here i p q e = from-fault (mesh columns rows map) i (omega (arith, row_ends)) e ∙ rw (node i p q)

  fault-next : (i k : ℕ) → start ≤ i → Next map (start + columns) i k →
      faults_from (mesh columns rows map) (i + 1) ≡ row_box r (k - start) (k - start) ∷ faults_from (mesh columns rows map) (k + 1)
  fault-next i k p n =
      let e : k - (i + 1) + (i + 1) ≡ k = omega (arith, n.later) in
      let skip =
      from-later (mesh columns rows map) (k - (i + 1)) (i + 1) (omega (arith, n.inside, row_ends))
      (λ j a b. n.none_between j (omega arith) (omega arith)) in
      rw e at skip ∙ fault-here k (omega (arith, n.later)) n.inside n.fault

  -- from the first to the last
  module _ (i : ℕ) (from : start ≤ i) (fault : is_bad (get_or map i 0) ≡ true) where
    pub chain-merges : {last : ℕ} → Chain map (start + columns) i last →
        Merges (faults_from (mesh columns rows map) i) (row_box r (i - start) (last - start) ∷ faults_from (mesh columns rows map) (last + 1))
    chain-merges (alone h) = rw (fault-here i from h fault) (begin (Permᴰ.refl _))
    chain-merges (more {j} {k} g n) =
        let p = chain-from g in
        let next = fault-next j k (omega arith) n in
        let rest = faults_from (mesh columns rows map) (k + 1) in
        let a = i - start in
        let b = j - start in
        let c = k - start in
        let h : b < c = omega (arith, n.later) in
        let l : c < b + 3 = omega (arith, n.near) in
        merges-trans (rw next at (chain-merges g))
        (rw (row-around r a b c h l (omega arith)) at (merges-pair (row_box r a b) (row_box r c c) rest (row-close r a b c h l (omega arith))))
