-- What the line says decides. Assumes nothing.
use Rattle.std.proofs.Common.{◌≡◌, Some, arith}
use Rattle.std.proofs.lemmas.Grind.{common_steps}
use Rattle.sheet_words.specs.declared.Command.TheVariants.{Mesh, Fault, Send}
use Rattle.theory_sheet.specs.Sheet.{change}
use Rattle.sheet_state.proofs.Changes.{bad}
use Rattle.sheet_state.proofs.Sheet.take_line.Goals as goal

pub returns-in-Some-Mesh : goal.returns-in-Some-Mesh
unfolding change
returns-in-Some-Mesh c =
    let e : c.args.command ≡ Some (Mesh c.in-Some-Mesh.columns c.in-Some-Mesh.rows) = grind (arith, common_steps) in
    rw e c.mesh_line.ensures

pub returns-in-Some-Fault : goal.returns-in-Some-Fault
unfolding change
returns-in-Some-Fault c = let e : c.args.command ≡ Some (Fault c.in-Some-Fault.p) = grind (arith, common_steps) in rw e c.fault_line.ensures

pub returns-in-Some-Send : goal.returns-in-Some-Send
unfolding change
returns-in-Some-Send c =
    let e : c.args.command ≡ Some (Send c.in-Some-Send.field-0-0 c.in-Some-Send.field-0-1) = grind (arith, common_steps) in
    rw e c.open_sends.ensures

pub returns-in-None : goal.returns-in-None
unfolding change
returns-in-None c = bad c.says.ensures (λ n. rw c.in-None.is)
