-- Letters, then the measures of their legs, then the file. Assumes nothing.
use Rattle.std.proofs.Common.{arith, sym, ◌∙◌}
use Rattle.std.proofs.lemmas.Result.{err_from_is_err_and}
use Rattle.to_legs.proofs.Answering.{legs-few, size_small, answers-other, answers-long, answers-room, file-writable, answers-wrote}
use Rattle.to_legs.proofs.letters_to_legs.Goals as goal

pub returns-then-has_other : goal.returns-then-has_other
returns-then-has_other c = answers-other _ _ (sym c.has_other.ensures ∙ c.if-has_other.true)

pub returns-in_err-measured : goal.returns-in_err-measured
returns-in_err-measured c =
    let p = err_from_is_err_and c.from_residual.result c.from_residual.ensures.1 in
    let (long, e) = c.in_err-measured.ensures.long in
    rw (p.1, p.2, e) (answers-long _ _ (sym c.has_other.ensures ∙ c.if-has_other.false) long)

pub overflow_add-bytes : goal.overflow_add-bytes
overflow_add-bytes c = omega (arith, size_small c.in_ok-measured.ensures.measured c.number_size.ensures)

pub returns-then-out-bytes : goal.returns-then-out-bytes
returns-then-out-bytes c =
    answers-room _ _ (sym c.has_other.ensures ∙ c.if-has_other.false) c.in_ok-measured.ensures.measured c.number_size.ensures
    c.if-out-bytes.true

pub overflow_cast-measured : goal.overflow_cast-measured
overflow_cast-measured c = omega (arith, legs-few c.in_ok-measured.ensures.measured)

pub write_file-requires : goal.write_file-requires
write_file-requires c =
    file-writable _ _ (sym c.has_other.ensures ∙ c.if-has_other.false) c.in_ok-measured.ensures.measured c.number_size.ensures
    c.if-out-bytes.false

pub returns : goal.returns
returns c =
    answers-wrote _ _ (sym c.has_other.ensures ∙ c.if-has_other.false) c.in_ok-measured.ensures.measured c.number_size.ensures
    c.if-out-bytes.false c.write_file.ensures
