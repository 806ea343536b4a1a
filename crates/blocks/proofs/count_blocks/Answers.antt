-- k corners lie before index i: in the end all of them, one a block. Assumes nothing.
use Rattle.std.proofs.Common.{ap, ◌*◌, arith}
use Rattle.blocks.proofs.Corners.{counted_none, counted-corner, counted-other, counted-all}
use Rattle.blocks.proofs.count_blocks.Goals as goal
use Rattle.blocks.proofs.count_blocks.Goals.{then-is_corner, else-is_corner}

pub loop-i-init : goal.loop-i-init
loop-i-init c = counted_none _

pub loop-i-preserved : goal.loop-i-preserved
loop-i-preserved c =
    let counted = c.loop-i.invariant in
    let corner = c.is_corner.ensures in
    let n = ap (λ w. w.columns * w.rows) c.nodes.view_is in
    elim c.if-is_corner.branch [
      | then-is_corner w ↦ rw w.k-is (counted-corner counted (omega arith) corner w.if-is_corner.true)
      | else-is_corner w ↦ rw w.k-is (counted-other counted (omega arith) corner w.if-is_corner.false)
    ]

pub returns : goal.returns
returns c =
    let n = ap (λ w. w.columns * w.rows) c.nodes.view_is in
    counted-all c.loop-i.invariant (omega arith)
