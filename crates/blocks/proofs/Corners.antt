-- Counting the corners of blocks. Assumes nothing.
use Rattle.std.proofs.Common.{◌≡◌, sym, ap, ◌∙◌, Bool, true, false, not, ℕ, suc, ◌+◌, ◌-◌, ◌*◌, ◌/◌, ◌%◌, ◌≤◌, ◌<◌, eqb, List, length, get_or, add-one, arith}
use borrow.Author.Tests.{eq-eqb, ne_eqb}
use Rattle.mesh.specs.declared.Heading.TheVariants.{South as S, West as W}
use Rattle.mesh.specs.Mesh.{Mesh, mesh}
use Rattle.mesh.specs.Nodes.{bad, ahead}
use Rattle.mesh.specs.Blocks.{corner, block_at, select, blocks}
use Rattle.mesh.proofs.Index.{place_of}
use Rattle.nodes.proofs.Lookup.{bad-here}

-- the node at index i, by its place
module _ {w : Mesh} {columns rows i : ℕ} {map : List ℕ} (v : mesh columns rows map ≡ w) (h : i < w.columns * w.rows) where
  bad-at : not (eqb (get_or map i 0) 0) ≡ bad w (i / w.columns) (i % w.columns)
  bad-at =
      let f = place_of w.columns w.rows i h in
      ap (λ w. not (eqb (get_or w.map i 0) 0)) v ∙ rw f.index at (bad-here w (i / w.columns) (i % w.columns) f.row f.column)

  pub sound-at : get_or map i 0 ≡ 0 → false ≡ bad w (i / w.columns) (i % w.columns)
  sound-at e = ap not (sym (eq-eqb _ 0 e)) ∙ bad-at

  pub faulty-at : (get_or map i 0 ≡ 0 → ⊥) → true ≡ bad w (i / w.columns) (i % w.columns)
  faulty-at e = ap not (sym (ne_eqb _ 0 e)) ∙ bad-at

module _ (B : ℕ → ℕ → Bool) (r c : ℕ) where
  pub corner-sound : false ≡ B r c → false ≡ corner B r c
  unfolding corner
  corner-sound e = rw (← e)

  module _ {x : Bool} (b : true ≡ B r c) (is-x : x ≡ ahead B W 1 r c) where
    pub corner-west : x ≡ true → false ≡ corner B r c
    unfolding corner
    corner-west f = rw (← b, ← is-x, f)

    pub corner-south : {s : Bool} → x ≡ false → s ≡ ahead B S 1 r c → not s ≡ corner B r c
    unfolding corner
    corner-south f is-s = rw (← b, ← is-x, f, is-s)

-- the number of corners from index i of the map on
unfoldable pub corners_from : Mesh → ℕ → ℕ
corners_from w i =
    length
    (select (λ i. corner (bad w) (i / w.columns) (i % w.columns))
    (λ i. block_at w.columns w.rows (bad w) (i / w.columns) (i % w.columns))
    (w.columns * w.rows - i) i)

module _ (w : Mesh) where
  corners-all : corners_from w 0 ≡ length (blocks w)
  unfolding corners_from blocks
  corners-all = let e : w.columns * w.rows - 0 ≡ w.columns * w.rows = omega arith in rw e

  corners-end : (i : ℕ) → i ≡ w.columns * w.rows → corners_from w i ≡ 0
  unfolding corners_from select
  corners-end i h = let e : w.columns * w.rows - i ≡ 0 = omega arith in rw e

  module _ (i : ℕ) (h : i < w.columns * w.rows) {x : Bool} (is_x : x ≡ corner (bad w) (i / w.columns) (i % w.columns)) where
    corners-yes : x ≡ true → corners_from w i ≡ 1 + corners_from w (i + 1)
    unfolding corners_from select
    corners-yes e =
        let q : w.columns * w.rows - i ≡ suc (w.columns * w.rows - (i + 1)) = omega arith in
        rw (q, ← is_x, e, add-one) (omega arith)

    corners-no : x ≡ false → corners_from w i ≡ corners_from w (i + 1)
    unfolding corners_from select
    corners-no e =
        let q : w.columns * w.rows - i ≡ suc (w.columns * w.rows - (i + 1)) = omega arith in
        rw (q, ← is_x, e, add-one)

-- k corners lie before index i
pub record Counted (w : Mesh) (k i : ℕ) : Type 0 where
  pub few : k ≤ i
  pub rest : k + corners_from w i ≡ length (blocks w)

pub counted_none : (w : Mesh) → Counted w 0 0
counted_none w = record { few = omega arith; rest = omega (arith, corners-all w) }

module _ {w : Mesh} {k i : ℕ} (t : Counted w k i) where
  module _ (h : i < w.columns * w.rows) {x : Bool} (is_x : x ≡ corner (bad w) (i / w.columns) (i % w.columns)) where
    pub counted-corner : x ≡ true → Counted w (k + 1) (i + 1)
    counted-corner e = record { few = omega (arith, t.few); rest = omega (arith, t.rest, corners-yes w i h is_x e) }

    pub counted-other : x ≡ false → Counted w k (i + 1)
    counted-other e = record { few = omega (arith, t.few); rest = omega (arith, t.rest, corners-no w i h is_x e) }

  pub counted-all : i ≡ w.columns * w.rows → k ≡ length (blocks w)
  counted-all h = omega (arith, t.rest, corners-end w i h)
