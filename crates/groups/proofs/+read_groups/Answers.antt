-- The byte there, and where its top bit is set fewer groups after it. Assumes nothing.
use Rattle.std.proofs.Common.{arith}
use Rattle.std.proofs.lemmas.Result.{err_from_is_err_and}
use Rattle.groups.proofs.Reading.{groups_none, groups-cut, groups-last, groups-more, groups-fault, groups-few}
use Rattle.groups.proofs.+read_groups.Goals as goal

pub returns-then-k-eq0 : goal.returns-then-k-eq0
returns-then-k-eq0 t c = groups_none _ _ _ c.if-k-eq0.true

pub returns-in_err-group : goal.returns-in_err-group
returns-in_err-group t c =
    let p = err_from_is_err_and c.from_residual.result c.from_residual.ensures.1 in
    let (h, e) = c.in_err-group.ensures.cut in
    rw (p.1, p.2, e) (groups-cut _ _ _ c.if-k-eq0.false h)

pub returns-then-group-lt128 : goal.returns-then-group-lt128
returns-then-group-lt128 t c =
    let (h, e) = c.in_ok-group.ensures.read in
    groups-last _ _ e h _ c.if-k-eq0.false c.if-group-lt128.true

pub returns-in_err-read_groups : goal.returns-in_err-read_groups
returns-in_err-read_groups t c =
    let p = err_from_is_err_and c.from_residual-in_err-read_groups.result c.from_residual-in_err-read_groups.ensures.1 in
    let (h, e) = c.in_ok-group.ensures.read in
    rw (p.1, p.2) (groups-fault _ _ e h c.if-group-lt128.false _ _ c.if-k-eq0.false c.in_err-read_groups.ensures)

pub above-requires : goal.above-requires
above-requires t c = groups-few _ _ _ _ (omega arith) c.in_ok-read_groups.ensures

pub returns : goal.returns
returns t c =
    let (h, e) = c.in_ok-group.ensures.read in
    groups-more _ _ e h c.if-group-lt128.false _ _ _ c.if-k-eq0.false c.above.ensures c.in_ok-read_groups.ensures
