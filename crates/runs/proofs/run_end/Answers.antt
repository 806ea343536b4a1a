-- The run's bytes are those that are counted or skipped. Assumes nothing.
use Rattle.std.proofs.Common.{arith}
use Rattle.runs.proofs.Same.{same-on, same-run}
use Rattle.runs.proofs.Comparing.{counted}
use Rattle.runs.proofs.run_end.Goals as goal

pub returns-then-j-close : goal.returns-then-j-close
returns-then-j-close c =
    let close = counted c.args.xs.now _ _ _ _ c.count_first.ensures.front (omega arith) (omega arith) in
    same-run (omega arith) close.skipped (λ h. close.ends c.if-j-close.true)

pub returns-else-j-close : goal.returns-else-j-close
returns-else-j-close c =
    let close = counted c.args.xs.now _ _ _ _ c.count_first.ensures.front (omega arith) (omega arith) in
    let last = counted c.args.xs.now _ _ _ _ c.count_first-else-j-close.ensures.front (omega arith) (omega arith) in
    same-run (omega arith) (same-on (same-on close.skipped c.skip_blocks-k.ensures) last.skipped) last.ends
