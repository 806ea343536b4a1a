-- A bad node stays, a safe one goes by the rules. Assumes nothing.
use Rattle.std.proofs.Common.{sym, ◌∙◌}
use Rattle.nodes.proofs.Rounds.{node-bad, node-turns, node_stays}
use Rattle.nodes.proofs.Nodes.node_after.Goals.{else-x-eq0-via-then-x-eq0+else-is_unsafe, else-x-eq0-via-else-x-eq0}
use Rattle.nodes.proofs.Nodes.node_after.Goals as goal

pub returns-then-is_unsafe : goal.returns-then-is_unsafe
returns-then-is_unsafe c = node-turns _ _ _ (sym c.get-x.ensures ∙ c.if-x-eq0.true) c.is_unsafe.ensures c.if-is_unsafe.true

pub returns-else-x-eq0 : goal.returns-else-x-eq0
returns-else-x-eq0 c =
    elim c.else-x-eq0.branch [
      | else-x-eq0-via-then-x-eq0+else-is_unsafe w ↦
          w.if-x-eq0.true ∙ node_stays _ _ _ (sym c.get-x.ensures ∙ w.if-x-eq0.true) w.is_unsafe.ensures w.if-is_unsafe.false
      | else-x-eq0-via-else-x-eq0 w ↦ rw c.get-x.ensures (node-bad _ _ _ (λ e. w.if-x-eq0.false (c.get-x.ensures ∙ e)))
    ]
