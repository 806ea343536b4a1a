use Rattle.std.proofs.Common.{◌≤◌}
use Rattle.test_router.proofs.areas.find_boxes.Given as goal

abbrev pub invariant-loop-i : goal.invariant-loop-i
invariant-loop-i l = l.n ≤ 1024
