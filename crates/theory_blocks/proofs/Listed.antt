-- The list of blocks of a mesh whose marking no rule adds to: rectangles with free rings, which hold every bad node. Assumes nothing.
use Rattle.std.proofs.Common.{◌≡◌, Bool, true, ℕ, ◌+◌, ◌*◌, ◌/◌, ◌%◌, ◌≤◌, arith, length}
use Rattle.std.proofs.lemmas.Bool.{and_parts, or_parts, not-true}
use Rattle.mesh.specs.Mesh.{Mesh}
use Rattle.mesh.specs.Nodes.{bad, ahead}
use Rattle.mesh.specs.Blocks.{Block, corner, block_at, blocks}
use Rattle.mesh.proofs.Index.{index-row, index-column, index-within, same_index}
use Rattle.theory_blocks.specs.Marking.{Closed}
use Rattle.theory_blocks.specs.Blocks.{Apart}
use Rattle.theory_blocks.specs.Obstacles.{Listed, Walled, InBlock, Pairs}
use Rattle.theory_blocks.proofs.Rules.{column, before, Settled, settled}
use Rattle.theory_blocks.proofs.Marking.{bad-on-mesh}
use Rattle.theory_blocks.proofs.Lines.{before-begins, begins-before}
use Rattle.theory_blocks.proofs.Rectangles.{Corner, walled, home}
use Rattle.theory_blocks.proofs.Apart.{walled-apart}
use Rattle.theory_blocks.proofs.Selected.{mem-selected, selected-mem, selected-pairs, select-few}

module _ (B : ℕ → ℕ → Bool) (r c : ℕ) where
  corner-told : corner B r c ≡ true → Corner B r c
  unfolding corner ahead
  corner-told e =
      let (a, d) = and_parts (B r c) _ e in
      let (w, s) = or_parts (before (B r) 1 c) (before (column B c) 1 r) (not-true _ d) in
      record { is-bad = a; west = before-begins (B r) c w; south = before-begins (column B c) r s }

  corner-true : Corner B r c → corner B r c ≡ true
  unfolding corner ahead
  corner-true k = rw (k.is-bad, begins-before (B r) c k.west, begins-before (column B c) r k.south)

-- no more blocks than nodes
pub blocks-within : (w : Mesh) → length (blocks w) ≤ w.columns * w.rows
unfolding blocks
blocks-within w = select-few _ _ (w.columns * w.rows) 0

module _ (w : Mesh) (closed : Closed w.columns w.rows (bad w)) where
  at_rest : Settled w.columns w.rows (bad w)
  at_rest = settled closed (bad-on-mesh w)

  pub blocks-walled : (b : Block) → Listed b (blocks w) → Walled (bad w) b
  unfolding blocks
  blocks-walled b m =
      let s = mem-selected _ _ _ 0 b m in
      rw s.is (walled at_rest _ _ (corner-told (bad w) _ _ s.test))

  pub bad-in-block : (x y : ℕ) → bad w x y ≡ true → InBlock (blocks w) x y
  unfolding blocks
  bad-in-block x y e =
      let h = home at_rest x y e in
      let p = (bad-on-mesh w).row h.row h.column h.is-corner.is-bad in
      let q = (bad-on-mesh w).column h.row h.column h.is-corner.is-bad in
      let u = index-row w.columns h.row h.column q in
      let v = index-column w.columns h.row h.column q in
      record {
        block = block_at w.columns w.rows (bad w) h.row h.column;
        listed =
            rw (u, v) at
            (selected-mem (λ i. corner (bad w) (i / w.columns) (i % w.columns))
            (λ i. block_at w.columns w.rows (bad w) (i / w.columns) (i % w.columns))
            (w.columns * w.rows) 0 (h.row * w.columns + h.column) (omega arith)
            (omega (arith, index-within w.columns h.row h.column q w.rows p))
            (rw (u, v) (corner-true (bad w) h.row h.column h.is-corner)));
        within = h.within;
      }

  pub blocks-apart : Pairs Apart (blocks w)
  unfolding blocks block_at
  blocks-apart =
      selected-pairs _ _ Apart
      (λ i j h t u.
      walled-apart (walled at_rest _ _ (corner-told (bad w) _ _ t)) (walled at_rest _ _ (corner-told (bad w) _ _ u))
      (λ p q. absurd (omega (arith, same_index w.columns i j p q))))
      (w.columns * w.rows) 0
