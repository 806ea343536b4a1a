-- The byte there, and where its top bit is set the groups after it. Assumes nothing.
use Rattle.std.proofs.Common.{arith}
use Rattle.std.proofs.lemmas.Result.{err_from_is_err_and}
use Rattle.groups.proofs.Reading.{number_cut, number-last, groups-more, groups-fault, groups-few, number-fault, number-all}
use Rattle.groups.proofs.read_number.Goals as goal

pub returns-in_err-first : goal.returns-in_err-first
returns-in_err-first c =
    let p = err_from_is_err_and c.from_residual.result c.from_residual.ensures.1 in
    let (h, e) = c.in_err-first.ensures.cut in
    rw (p.1, p.2, e) (number_cut _ _ h)

pub returns-then-first-lt128 : goal.returns-then-first-lt128
returns-then-first-lt128 c = let (h, e) = c.in_ok-first.ensures.read in number-last _ _ e h c.if-first-lt128.true

pub returns-in_err-read_groups : goal.returns-in_err-read_groups
returns-in_err-read_groups c =
    let p = err_from_is_err_and c.from_residual-in_err-read_groups.result c.from_residual-in_err-read_groups.ensures.1 in
    let (h, e) = c.in_ok-first.ensures.read in
    rw (p.1, p.2) (number-fault _ _ _ (groups-fault _ _ e h c.if-first-lt128.false _ 3 (λ z. absurd (omega arith)) c.in_err-read_groups.ensures))

pub above-requires : goal.above-requires
above-requires c = groups-few _ _ 2 _ (omega arith) c.in_ok-read_groups.ensures

pub returns-in_err-above : goal.returns-in_err-above
returns-in_err-above c =
    let p = err_from_is_err_and c.from_residual-in_err-above.result c.from_residual-in_err-above.ensures.1 in
    let (h, e) = c.in_ok-first.ensures.read in
    rw (p.1, p.2) (number-fault _ _ _ (groups-more _ _ e h c.if-first-lt128.false _ _ 3 (λ z. absurd (omega arith)) c.in_err-above.ensures c.in_ok-read_groups.ensures))

pub returns : goal.returns
returns c =
    let (h, e) = c.in_ok-first.ensures.read in
    number-all _ _ _ _ (groups-more _ _ e h c.if-first-lt128.false _ _ 3 (λ z. absurd (omega arith)) c.in_ok-above.ensures c.in_ok-read_groups.ensures) c.not_large.ensures
