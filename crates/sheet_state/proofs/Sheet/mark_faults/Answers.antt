-- The faults' places are looked at, then the map is marked in its place and its blocks are counted. Assumes nothing.
use Rattle.std.proofs.Common.{arith}
use Rattle.mesh.specs.declared.Refusal.TheVariants.{FaultPlace}
use Rattle.theory_sheet.specs.Sheet.{is_misplaced, opening}
use Rattle.sheet_state.proofs.Changes.{refused}
use Rattle.sheet_state.proofs.Opening.{faults-sized, faults-few, opened}
use Rattle.sheet_state.proofs.Sheet.mark_faults.Goals as goal

pub nodes-requires : goal.nodes-requires
nodes-requires c = (faults-sized c.requires.0 c.requires.1, omega (arith, faults-few c.requires.0 c.requires.1, c.requires.0.room))

pub returns-then-has_misplaced : goal.returns-then-has_misplaced
unfolding opening is_misplaced
returns-then-has_misplaced c =
    refused FaultPlace c.says.ensures (λ n. rw (c.requires.1, ← (rw c.nodes.ensures at c.has_misplaced.ensures), c.if-has_misplaced.true))

pub returns : goal.returns
returns c =
    opened c.requires.0 c.requires.1 c.settle.ensures.marks (rw c.nodes.ensures at c.has_misplaced.ensures) c.if-has_misplaced.false
    (rw c.nodes-2.ensures at c.count_blocks-blocks.ensures)
