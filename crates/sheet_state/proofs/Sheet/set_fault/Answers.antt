-- Off the mesh the line is bad; on it the fault has its place in the map. Assumes nothing.
use Rattle.std.proofs.Common.{inl, inr, arith}
use Rattle.std.proofs.lemmas.Bool.{lt-ltb, le-ltb}
use Rattle.mesh.specs.Mesh.{on_mesh}
use Rattle.mesh.specs.Requests.{off_mesh}
use Rattle.theory_sheet.specs.Sheet.{fault_line}
use Rattle.sheet_state.proofs.Changes.{bad}
use Rattle.sheet_state.proofs.Faults.{fault-index, fault-set}
use Rattle.sheet_state.proofs.Sheet.set_fault.Goals as goal

pub overflow_mul-map : goal.overflow_mul-map
overflow_mul-map c = omega (arith, fault-index c.requires.0 c.requires.1 c.args.p c.if-p-self.true c.if-p-self-2.true)

pub overflow_add-map : goal.overflow_add-map
overflow_add-map c = omega (arith, fault-index c.requires.0 c.requires.1 c.args.p c.if-p-self.true c.if-p-self-2.true)

pub bounds-map-p : goal.bounds-map-p
bounds-map-p c =
    omega (arith, c.requires.0.room, fault-index c.requires.0 c.requires.1 c.args.p c.if-p-self.true c.if-p-self-2.true)

pub returns-then-p-self-2 : goal.returns-then-p-self-2
returns-then-p-self-2 c = fault-set c.requires.0 c.requires.1 c.args.p c.if-p-self.true c.if-p-self-2.true c.says.ensures

pub returns-else-p-self : goal.returns-else-p-self
unfolding fault_line off_mesh on_mesh
returns-else-p-self c =
    bad c.says-else-p-self.ensures
    (λ n. elim c.else-p-self.either [ inl e ↦ rw (c.requires.1, lt-ltb _ _ e.0, le-ltb _ _ e.1) | inr e ↦ rw (c.requires.1, le-ltb _ _ e) ])
