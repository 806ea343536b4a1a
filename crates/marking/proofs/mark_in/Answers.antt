-- What stands in the first places of the buffer is handed out. Assumes nothing.
use Rattle.std.proofs.Common.{arith, refl, sym}
use lib.Seq.{length-take-le}
use Rattle.marking.proofs.Marks.{marking, marks-clear, marks-few, marks-sized}
use Rattle.marking.proofs.mark_in.Goals as goal

pub slice_bounds-result-end : goal.slice_bounds-result-end
slice_bounds-result-end c =
    let few = marks-few _ _ _ c.mark_map.ensures c.in_ok-mark_map.was in
    sym (length-take-le _ _ (omega (arith, c.mark_map.auto.marks, few)))

pub invariant_of-result : goal.invariant_of-result
invariant_of-result c = marks-sized _ _ _ c.mark_map.ensures c.in_ok-mark_map.was

pub invariant_of-result-2 : goal.invariant_of-result-2
invariant_of-result-2 c = marking refl (c.mark_map.ensures.marks c.in_ok-mark_map.was) (marks-clear _ _ _ c.mark_map.ensures c.in_ok-mark_map.was)
