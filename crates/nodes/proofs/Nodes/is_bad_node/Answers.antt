-- The node's number decides. Assumes nothing.
use Rattle.nodes.proofs.Lookup.{bad-here}
use Rattle.nodes.proofs.Nodes.is_bad_node.Goals as goal

pub returns : goal.returns
returns c =
    let on = c.requires in
    rw c.get.ensures (bad-here _ _ _ on.row on.column)
