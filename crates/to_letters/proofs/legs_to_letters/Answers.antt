-- What is counted is refused, or written. Assumes nothing.
use Rattle.std.proofs.lemmas.Result.{err_from_is_err_and}
use Rattle.to_letters.proofs.Answering.{answers-fault, answers-room, letters-writable, answers-wrote}
use Rattle.to_letters.proofs.legs_to_letters.Goals as goal

pub returns-in_err-counted : goal.returns-in_err-counted
returns-in_err-counted c =
    let p = err_from_is_err_and c.from_residual.result c.from_residual.ensures.1 in
    rw (p.1, p.2) (answers-fault _ _ c.in_err-counted.ensures)

pub returns-then-out-counted : goal.returns-then-out-counted
returns-then-out-counted c = answers-room _ _ _ c.in_ok-counted.ensures c.if-out-counted.true

pub write_letters-requires : goal.write_letters-requires
write_letters-requires c = letters-writable _ _ _ c.in_ok-counted.ensures c.if-out-counted.false

pub returns : goal.returns
returns c = answers-wrote _ _ _ c.in_ok-counted.ensures c.if-out-counted.false c.write_letters.ensures
