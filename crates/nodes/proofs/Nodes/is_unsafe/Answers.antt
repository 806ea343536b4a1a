-- With a bad node north or south any bad one to the side will do; without one both sides must be bad. Assumes nothing.
use Rattle.std.proofs.Common.{sym, ◌∙◌}
use Rattle.nodes.proofs.Unsafe.{unsafe-upright, unsafe-flat}
use Rattle.nodes.proofs.Nodes.is_unsafe.Goals as goal

pub returns-then-is_bad_beside : goal.returns-then-is_bad_beside
returns-then-is_bad_beside c =
    rw (unsafe-upright _ _ _ (sym c.is_upright.ensures ∙ c.if-is_upright.true), ← c.is_bad_beside.ensures, c.if-is_bad_beside.true)

pub returns-else-is_bad_beside : goal.returns-else-is_bad_beside
returns-else-is_bad_beside c =
    rw (unsafe-upright _ _ _ (sym c.is_upright.ensures ∙ c.if-is_upright.true), ← c.is_bad_beside.ensures, c.if-is_bad_beside.false)
    c.is_bad_beside-else-is_bad_beside.ensures

pub returns-then-is_bad_ahead : goal.returns-then-is_bad_ahead
returns-then-is_bad_ahead c =
    rw (unsafe-flat _ _ _ (sym c.is_upright.ensures ∙ c.if-is_upright.false), ← c.is_bad_ahead.ensures, c.if-is_bad_ahead.true)
    c.is_bad_ahead-then-is_bad_ahead.ensures

pub returns-else-is_bad_ahead : goal.returns-else-is_bad_ahead
returns-else-is_bad_ahead c =
    rw (unsafe-flat _ _ _ (sym c.is_upright.ensures ∙ c.if-is_upright.false), ← c.is_bad_ahead.ensures, c.if-is_bad_ahead.false)
