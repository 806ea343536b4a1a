-- A corner is bad, and neither its west nor its south neighbour is; the index gives its place. Assumes nothing.
use Rattle.std.proofs.Common.{ap, not, ◌∙◌}
use Rattle.blocks.proofs.Corners.{sound-at, faulty-at, corner-sound, corner-west, corner-south}
use Rattle.blocks.proofs.is_corner.Goals as goal

pub returns-then-nodes-i-eq0 : goal.returns-then-nodes-i-eq0
returns-then-nodes-i-eq0 c = corner-sound _ _ _ (sound-at c.nodes.view_is c.requires c.if-nodes-i-eq0.true)

pub returns-then-not-is_bad_ahead : goal.returns-then-not-is_bad_ahead
returns-then-not-is_bad_ahead c =
    let n = ap (λ w. w.columns) c.nodes.view_is in
    corner-south _ _ _ (faulty-at c.nodes.view_is c.requires c.if-nodes-i-eq0.false) (rw n at c.is_bad_ahead.ensures)
    c.if-not-is_bad_ahead.true (rw n at c.is_bad_ahead-then-not-is_bad_ahead.ensures)

pub returns-else-not-is_bad_ahead : goal.returns-else-not-is_bad_ahead
returns-else-not-is_bad_ahead c =
    let n = ap (λ w. w.columns) c.nodes.view_is in
    ap not c.if-not-is_bad_ahead.false ∙ corner-west _ _ _ (faulty-at c.nodes.view_is c.requires c.if-nodes-i-eq0.false)
    (rw n at c.is_bad_ahead.ensures) c.if-not-is_bad_ahead.false
