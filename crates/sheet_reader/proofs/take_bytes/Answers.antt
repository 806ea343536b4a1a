-- Line by line or byte by byte, the first bytes are taken. Assumes nothing.
use Rattle.std.proofs.Common.{ℕ}
use Rattle.std.proofs.lemmas.List.{length-replicate}
use Rattle.theory_walk.specs.Claims.{most_hops}
use Rattle.sheet_reader.proofs.Taking.{taking-none, can-read, can-answer, taking-more, taken}
use Rattle.sheet_reader.proofs.take_bytes.Goals as goal

pub loop-letters-init : goal.loop-letters-init
loop-letters-init c = taking-none c.requires.0 c.requires.1 (length-replicate {A = ℕ} most_hops 0)

pub read_next-next-requires : goal.read_next-next-requires
read_next-next-requires c = can-read c.loop-letters.invariant c.can_go_on.ensures c.loop-letters-test.true

pub answer_read-at-requires : goal.answer_read-at-requires
answer_read-at-requires c = can-answer c.loop-letters.invariant c.can_go_on.ensures c.loop-letters-test.true

pub loop-letters-preserved : goal.loop-letters-preserved
loop-letters-preserved c =
    taking-more c.loop-letters.invariant c.can_go_on.ensures c.loop-letters-test.true c.read_next-next.ensures
    c.answer_read-at.auto.letters c.answer_read-at.auto.map c.answer_read-at.auto.out c.answer_read-at.ensures

pub returns : goal.returns
returns c = taken c.loop-letters.invariant c.can_go_on.ensures c.loop-letters-test.false
