-- Sizes that pass make a map without faults. Assumes nothing.
use Rattle.std.proofs.Common.{◌*◌, sym, arith, length-take-le}
use Rattle.mesh.specs.declared.Refusal.TheVariants.{Columns, Rows}
use Rattle.theory_sheet.specs.Sheet.{mesh_line}
use Rattle.sheet_state.proofs.Changes.{refused}
use Rattle.sheet_state.proofs.Faults.{mesh-few, mesh-made}
use Rattle.sheet_state.proofs.Sheet.first_line.Goals as goal

pub returns-then-is_bad_size : goal.returns-then-is_bad_size
unfolding mesh_line
returns-then-is_bad_size c =
    refused Columns c.says.ensures (λ n. rw (c.requires.1, ← c.is_bad_size.ensures, c.if-is_bad_size.true))

pub returns-then-is_bad_size-2 : goal.returns-then-is_bad_size-2
unfolding mesh_line
returns-then-is_bad_size-2 c =
    refused Rows c.says-then-is_bad_size-2.ensures
    (λ n. rw (c.requires.1, ← c.is_bad_size.ensures, c.if-is_bad_size.false, ← c.is_bad_size-2.ensures, c.if-is_bad_size-2.true))

pub overflow_mul-columns : goal.overflow_mul-columns
overflow_mul-columns c =
    omega (arith, mesh-few _ _ c.is_bad_size.ensures c.if-is_bad_size.false c.is_bad_size-2.ensures c.if-is_bad_size-2.false)

pub slice_bounds-fill-end : goal.slice_bounds-fill-end
slice_bounds-fill-end c =
    omega (arith, c.requires.0.room, mesh-few _ _ c.is_bad_size.ensures c.if-is_bad_size.false c.is_bad_size-2.ensures c.if-is_bad_size-2.false)

pub slice_bounds-fill-end-2 : goal.slice_bounds-fill-end-2
slice_bounds-fill-end-2 c =
    let few = mesh-few _ _ c.is_bad_size.ensures c.if-is_bad_size.false c.is_bad_size-2.ensures c.if-is_bad_size-2.false in
    sym (length-take-le (c.args.columns * c.args.rows) c.args.map.now (omega (arith, c.requires.0.room)))

pub returns : goal.returns
returns c =
    let few = mesh-few _ _ c.is_bad_size.ensures c.if-is_bad_size.false c.is_bad_size-2.ensures c.if-is_bad_size-2.false in
    let size = length-take-le (c.args.columns * c.args.rows) c.args.map.now (omega (arith, c.requires.0.room)) in
    mesh-made _ _ c.is_bad_size.ensures c.if-is_bad_size.false c.is_bad_size-2.ensures c.if-is_bad_size-2.false _ _
    c.requires.1 c.requires.0.room (rw (c.fill.ensures.after (λ y e. e), size))
