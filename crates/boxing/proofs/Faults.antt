-- The boxes of the faults from an index of the map on. Assumes nothing.
use mathlib.Core.Path.{◌≡◌, ◌∙◌}
use mathlib.Core.Bool.{true, false, cond}
use mathlib.Core.List.{[], ◌∷◌}
use Prim.Native.Nat.{ℕ, zero, suc, ◌+◌, ◌-◌, ◌/◌, ◌%◌, ◌≤◌, ◌<◌}
use native.Mathlib.Nat.{sub-zero}
use native.Mathlib.Numerals.{add-one}
use native.Mathlib.Omega.{arith}
use lib.ListN.{length, get_or}
use Rattle.mesh.specs.Mesh.{Mesh}
use Rattle.mesh.specs.Nodes.{is_bad}
use Rattle.mesh.specs.Blocks.{select}
use Rattle.theory_boxes.specs.Boxes.{node_box, fault_boxes}
use Rattle.boxing.specs.Steps.{faults_from}

module _ (w : Mesh) where
  pub from_all : faults_from w 0 ≡ fault_boxes w
  unfolding faults_from fault_boxes
  from_all = rw (sub-zero)

  pub from_end : (i : ℕ) → length w.map ≤ i → faults_from w i ≡ []
  unfolding faults_from select
  from_end i h = let e : length w.map - i ≡ 0 = omega arith in rw e

  module _ (i : ℕ) (h : i < length w.map) where
    from-here : faults_from w i ≡
        cond (is_bad (get_or w.map i 0)) (node_box (i / w.columns) (i % w.columns) ∷ faults_from w (i + 1)) (faults_from w (i + 1))
    unfolding faults_from select
    from-here = let e : length w.map - i ≡ suc (length w.map - suc i) = omega arith in rw (e, add-one i)

    pub from-fault : is_bad (get_or w.map i 0) ≡ true → faults_from w i ≡ node_box (i / w.columns) (i % w.columns) ∷ faults_from w (i + 1)
    from-fault e = from-here ∙ rw e

    pub from-sound : is_bad (get_or w.map i 0) ≡ false → faults_from w i ≡ faults_from w (i + 1)
    from-sound e = from-here ∙ rw e

  -- sound nodes are passed over
  pub from-later : (k i : ℕ) → k + i ≤ length w.map → ((j : ℕ) → i ≤ j → j < k + i → is_bad (get_or w.map j 0) ≡ false) →
      faults_from w i ≡ faults_from w (k + i)
  from-later zero i h f = let e : 0 + i ≡ i = omega arith in rw e
  from-later (suc k) i h f =
      let e : suc k + i ≡ k + (i + 1) = omega arith in
      from-sound i (omega arith) (f i (omega arith) (omega arith)) ∙
      rw e (from-later k (i + 1) (omega arith) (λ j p q. f j (omega arith) (omega arith)))
