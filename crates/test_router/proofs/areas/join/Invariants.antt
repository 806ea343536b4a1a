-- Each turn takes one box out of the list.
use Rattle.std.proofs.Common.{◌≤◌}
use Rattle.test_router.proofs.areas.join.Given as goal

abbrev pub invariant-loop-k : goal.invariant-loop-k
invariant-loop-k l = l.left ≤ 1024

abbrev pub decreases-loop-k : goal.decreases-loop-k
decreases-loop-k l = l.left
