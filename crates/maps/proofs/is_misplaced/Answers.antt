-- A sound node is never misplaced, a fault unless it is allowed. Assumes nothing.
use Rattle.maps.proofs.Checks.{sound-placed, fault-placed}
use Rattle.maps.proofs.is_misplaced.Goals as goal

pub returns-then-nodes-i-eq0 : goal.returns-then-nodes-i-eq0
returns-then-nodes-i-eq0 c = rw (← c.nodes.view_is) (sound-placed _ _ _ _ c.if-nodes-i-eq0.true)

pub returns : goal.returns
returns c = rw (← c.nodes.view_is) (fault-placed _ _ _ _ c.if-nodes-i-eq0.false (rw (← c.nodes.view_is) at c.is_allowed.ensures))
