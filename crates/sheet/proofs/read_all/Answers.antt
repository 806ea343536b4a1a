-- The bytes that came so far were fed from the start, and each read that goes on leaves fewer to take. Assumes nothing.
use Rattle.std.proofs.Common.{◌≡◌, Err, arith}
use Rattle.std.proofs.lemmas.Grind.{common_steps}
use Rattle.sheet.proofs.Going.{going-first, reads-stop, answers-stop, answers-failed, going_on, going_less}
use Rattle.sheet.proofs.read_all.Goals as goal

pub loop-read-init : goal.loop-read-init
loop-read-init g c = going-first c.begin-reader.ensures c.requires.0

pub returns-in_err-read-clause-answers : goal.returns-in_err-read-clause-answers
returns-in_err-read-clause-answers g c =
    let why : c.from_residual.result ≡ Err c.in_err-read.field-0.0 = grind (arith, common_steps) in
    rw why (answers-failed c.loop-read.invariant c.in_err-read.ensures.takes)

pub returns-then-not-reads_on-clause-reads : goal.returns-then-not-reads_on-clause-reads
returns-then-not-reads_on-clause-reads g c =
    let read = c.in_ok-read.ensures in
    reads-stop c.loop-read.invariant read.takes read.reads c.reads_on.ensures c.if-not-reads_on.true

pub returns-then-not-reads_on-clause-answers : goal.returns-then-not-reads_on-clause-answers
returns-then-not-reads_on-clause-answers g c =
    let read = c.in_ok-read.ensures in
    answers-stop c.loop-read.invariant read.takes read.reads c.reads_on.ensures c.if-not-reads_on.true c.loop-read.auto.chunk

pub loop-read-smaller : goal.loop-read-smaller
loop-read-smaller g c =
    let read = c.in_ok-read.ensures in
    going_less c.loop-read.invariant read.takes read.reads c.reads_on.ensures c.if-not-reads_on.false

pub loop-read-preserved : goal.loop-read-preserved
loop-read-preserved g c =
    let read = c.in_ok-read.ensures in
    going_on c.loop-read.invariant read.takes read.reads c.reads_on.ensures c.if-not-reads_on.false
