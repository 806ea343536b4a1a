-- Some legs are counted, the others are left. Assumes nothing.
use Rattle.std.proofs.Common.{◌≡◌, ◌≢◌, ◌-◌, ◌%◌, Some, rules, arith}
use Rattle.std.proofs.lemmas.Result.{err_from_is_err_and}
use Rattle.to_letters.proofs.Counting.{counting-none, counting-all, counting-fault, counting-repeats, counting_more}
use Rattle.to_letters.proofs.count_legs.Goals as goal

pub loop-init : goal.loop-init
loop-init c = let all : c.args.legs - 0 ≡ c.args.legs = omega arith in rw all (counting-none _ _ _ c.requires)

pub returns-in_err-n : goal.returns-in_err-n
returns-in_err-n c =
    let p = err_from_is_err_and c.from_residual.result c.from_residual.ensures.1 in
    rw (p.1, p.2) (counting-fault c.loop.invariant (omega arith) c.in_err-n.ensures)

pub returns-then-eq : goal.returns-then-eq
returns-then-eq c =
    let e : c.loop.before ≡ Some (c.in_ok-n.n % 4) = search rules in
    counting-repeats c.loop.invariant (omega arith) _ _ c.in_ok-n.ensures e

pub loop-preserved : goal.loop-preserved
loop-preserved c =
    let d : c.loop.before ≢ Some (c.in_ok-n.n % 4) = search rules in
    counting_more c.loop.invariant (omega arith) _ _ c.in_ok-n.ensures (omega arith) d

pub returns : goal.returns
returns c = counting-all c.loop.invariant (omega arith)
