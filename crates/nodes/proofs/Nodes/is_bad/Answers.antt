-- Beyond the mesh nothing is bad; on it the node decides. Assumes nothing.
use Rattle.std.proofs.Common.{sym, ◌∙◌}
use Rattle.nodes.proofs.Lookup.{has-place, bad-off}
use Rattle.nodes.proofs.Nodes.is_bad.Goals as goal

pub is_bad_node-requires : goal.is_bad_node-requires
is_bad_node-requires c = has-place _ _ (sym c.has.ensures ∙ c.if-has.true)

pub returns-else-has : goal.returns-else-has
returns-else-has c = c.if-has.false ∙ bad-off _ _ _ (sym c.has.ensures ∙ c.if-has.false)
