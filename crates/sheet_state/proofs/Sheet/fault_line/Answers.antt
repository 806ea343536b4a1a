-- Faults stand between the mesh line and the first send. Assumes nothing.
use Rattle.std.proofs.Common.{inl, inr}
use Rattle.theory_sheet.specs.Sheet.{fault_line}
use Rattle.sheet_state.proofs.Changes.{bad}
use Rattle.sheet_state.proofs.Sheet.fault_line.Goals as goal

pub returns-in-Start : goal.returns-in-Start
unfolding fault_line
returns-in-Start c = bad c.says.ensures (λ n. elim c.in-Start.is [ inl e ↦ rw e | inr e ↦ rw e ])
