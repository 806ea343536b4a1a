-- One on, two on, or neither. Assumes nothing.
use Rattle.faults.proofs.Groups.{one_on, two-on}
use Rattle.faults.proofs.next_near.Goals as goal

pub returns-then-is_fault : goal.returns-then-is_fault
returns-then-is_fault c = one_on _ _ _ c.is_fault.ensures c.if-is_fault.true

pub returns-then-is_fault-2 : goal.returns-then-is_fault-2
returns-then-is_fault-2 c = two-on _ _ _ c.is_fault.ensures c.if-is_fault.false c.is_fault-else-is_fault.ensures c.if-is_fault-2.true
