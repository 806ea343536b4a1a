-- Part by part, the first `used` bytes are answered. Assumes nothing.
use Rattle.std.proofs.Common.{◌≡◌, ◌≤◌, true, false, length, is_ok, arith}
use Rattle.std.proofs.lemmas.Bool.{not-true, not-false}
use Rattle.std.proofs.lemmas.Grind.{common_steps}
use Rattle.sheet_lines.specs.Answers.{answer_room}
use Rattle.sheet_writer.proofs.Using.{using-none, uses-more, using-more, write-failed, rests, all-used, used-up, written-up}
use Rattle.sheet_writer.proofs.answer_some.Goals as goal
use Rattle.sheet_writer.proofs.answer_some.Goals.{then-loop-used-test+else-not-reader, else-loop-used-test}

pub loop-used-init : goal.loop-used-init
loop-used-init g c = using-none c.requires.0

pub returns-then-is_err-clause-writes : goal.returns-then-is_err-clause-writes
returns-then-is_err-clause-writes g c =
    let room : answer_room ≤ length c.loop-used.out = omega arith in
    let no : is_ok c.write_whole.result ≡ false = grind (arith, common_steps) in
    write-failed c.loop-used.invariant c.loop-used-test.true (not-true _ c.if-not-reader.true) c.take_bytes-next.ensures room (rw no at c.write_whole.ensures)

pub loop-used-smaller : goal.loop-used-smaller
loop-used-smaller g c =
    let room : answer_room ≤ length c.loop-used.out = omega arith in
    let (within, some) = uses-more c.loop-used.invariant c.loop-used-test.true (not-true _ c.if-not-reader.true) c.take_bytes-next.ensures room in
    omega arith

pub loop-used-preserved : goal.loop-used-preserved
loop-used-preserved g c =
    let room : answer_room ≤ length c.loop-used.out = omega arith in
    let yes : is_ok c.write_whole.result ≡ true = grind (arith, common_steps) in
    using-more c.loop-used.invariant c.loop-used-test.true (not-true _ c.if-not-reader.true) c.take_bytes-next.ensures room c.write_whole.ensures yes

pub returns-clause-answers : goal.returns-clause-answers
returns-clause-answers g c =
    used-up c.loop-used.invariant
    (elim c.loop-used-test.branch [
      | then-loop-used-test+else-not-reader w ↦ rests c.loop-used.invariant (not-false _ w.if-not-reader.false)
      | else-loop-used-test w ↦ all-used c.loop-used.invariant w.loop-used-test.false
    ])

pub returns-clause-writes : goal.returns-clause-writes
returns-clause-writes g c =
    written-up c.loop-used.invariant
    (elim c.loop-used-test.branch [
      | then-loop-used-test+else-not-reader w ↦ rests c.loop-used.invariant (not-false _ w.if-not-reader.false)
      | else-loop-used-test w ↦ all-used c.loop-used.invariant w.loop-used-test.false
    ])
