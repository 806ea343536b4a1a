-- Only the first line makes the mesh; a later mesh line is bad. Assumes nothing.
use Rattle.std.proofs.Common.{inl, inr}
use Rattle.theory_sheet.specs.Sheet.{mesh_line}
use Rattle.sheet_state.proofs.Changes.{bad}
use Rattle.sheet_state.proofs.Sheet.mesh_line.Goals as goal

pub returns-in-Faults : goal.returns-in-Faults
unfolding mesh_line
returns-in-Faults c = bad c.says.ensures (λ n. elim c.in-Faults.is [ inl e ↦ rw e | inr e ↦ rw e ])
