-- The number of legs, the legs, and nothing after them. Assumes nothing.
use Rattle.std.proofs.lemmas.Result.{err_from_is_err_and}
use Rattle.to_letters.proofs.Counting.{file-fault, legs-few, file-refused, file-left, file-whole}
use Rattle.to_letters.proofs.count_file.Goals as goal

pub returns-in_err-legs : goal.returns-in_err-legs
returns-in_err-legs c =
    let p = err_from_is_err_and c.from_residual.result c.from_residual.ensures.1 in
    rw (p.1, p.2) (file-fault _ _ c.in_err-legs.ensures)

pub count_legs-requires : goal.count_legs-requires
count_legs-requires c = legs-few _ _ _ c.in_ok-legs.ensures

pub returns-in_err-total : goal.returns-in_err-total
returns-in_err-total c =
    let p = err_from_is_err_and c.from_residual-in_err-total.result c.from_residual-in_err-total.ensures.1 in
    rw (p.1, p.2) (file-refused _ _ _ c.in_ok-legs.ensures c.in_err-total.ensures)

pub returns-then-end-file : goal.returns-then-end-file
returns-then-end-file c = file-left _ _ _ c.in_ok-legs.ensures c.in_ok-total.ensures c.if-end-file.true

pub returns : goal.returns
returns c = file-whole _ _ _ c.in_ok-legs.ensures c.in_ok-total.ensures c.if-end-file.false
