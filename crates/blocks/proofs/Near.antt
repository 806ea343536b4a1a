-- Refusal 8 as the code tests it: one column away on either side, then two. Assumes nothing.
use Rattle.std.proofs.Common.{◌≡◌, ◌||◌, true, false}
use Rattle.mesh.specs.declared.Heading.TheVariants.{East as E, West as W}
use Rattle.mesh.specs.declared.Place.{Place}
use Rattle.mesh.specs.Mesh.{Mesh}
use Rattle.mesh.specs.Nodes.{bad, ahead, near_in_row}
use Rattle.mesh.specs.Requests.{block_near_in_row}
use Rattle.theory_blocks.proofs.Near.{near-blocks}
use Rattle.blocks.specs.Marking.{Marking}

module _ (w : Mesh) (p : Place) (m : Marking w) where
  by-nodes : block_near_in_row w p ≡ near_in_row (bad w) p.row.0 p.column.0
  unfolding block_near_in_row
  by-nodes = near-blocks m.obstacles p.row.0 p.column.0

  pub near_first : ahead (bad w) E 1 p.row.0 p.column.0 || ahead (bad w) W 1 p.row.0 p.column.0 ≡ true → block_near_in_row w p ≡ true
  unfolding near_in_row
  near_first e = rw (by-nodes, e)

  pub near_second : ahead (bad w) E 1 p.row.0 p.column.0 || ahead (bad w) W 1 p.row.0 p.column.0 ≡ false →
      block_near_in_row w p ≡ ahead (bad w) E 2 p.row.0 p.column.0 || ahead (bad w) W 2 p.row.0 p.column.0
  unfolding near_in_row
  near_second e = rw (by-nodes, e)
