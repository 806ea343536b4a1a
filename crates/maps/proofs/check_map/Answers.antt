-- A refusal comes with the first test that holds: those before it were left. Assumes nothing.
use Rattle.std.proofs.Common.{sym, ◌∙◌}
use Rattle.mesh.proofs.Maps.{good-size}
use Rattle.maps.proofs.Checks.{sized}
use Rattle.maps.proofs.check_map.Goals as goal

pub is_bad_length-requires : goal.is_bad_length-requires
is_bad_length-requires c = (
  good-size _ (sym c.is_bad_size.ensures ∙ c.if-is_bad_size.false),
  good-size _ (sym c.is_bad_size-2.ensures ∙ c.if-is_bad_size-2.false),
)

pub invariant_of-nodes : goal.invariant_of-nodes
invariant_of-nodes c =
    sized _ _ _ (sym c.is_bad_size.ensures ∙ c.if-is_bad_size.false) (sym c.is_bad_size-2.ensures ∙ c.if-is_bad_size-2.false)
    (sym c.is_bad_length.ensures ∙ c.if-is_bad_length.false)
