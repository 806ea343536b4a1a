-- What the line says is taken and told; unless the run is over, a send is answered after it. Assumes nothing.
use Rattle.std.proofs.Common.{◌≡◌, Some, arith}
use Rattle.std.proofs.lemmas.Grind.{common_steps}
use Rattle.sheet_words.specs.declared.Command.TheVariants.{Send}
use Rattle.sheet_lines.proofs.Answering.{ends-here, not-a-send, can-answer, send-answered}
use Rattle.sheet_lines.proofs.answer_line.Goals as goal

pub tell-at-requires : goal.tell-at-requires
tell-at-requires c = (c.take_line-change.ensures.few, c.requires.1, omega arith)

pub returns-then-ends_run : goal.returns-then-ends_run
returns-then-ends_run c = ends-here _ _ _ _ c.take_line-change.ensures c.tell-at.ensures c.ends_run.ensures c.if-ends_run.true

pub answer_send-requires : goal.answer_send-requires
answer_send-requires c =
    let (_, few, letters, room) = c.requires in
    let e : c.args.command ≡ Some (Send c.in-Some-Send.s c.in-Some-Send.d) = grind (arith, common_steps) in
    let (marks, size, fits) = can-answer _ _ _ _ c.take_line-change.ensures c.tell-at.ensures c.ends_run.ensures c.if-ends_run.false _ _ e few room in
    (marks, size, letters, fits)

pub returns : goal.returns
returns c =
    let e : c.args.command ≡ Some (Send c.in-Some-Send.s c.in-Some-Send.d) = grind (arith, common_steps) in
    send-answered _ _ _ _ c.take_line-change.ensures c.tell-at.ensures c.ends_run.ensures
    c.if-ends_run.false _ _ e c.answer_send.ensures

pub returns-in_default : goal.returns-in_default
returns-in_default c =
    not-a-send _ _ _ _ c.take_line-change.ensures c.tell-at.ensures c.ends_run.ensures
    c.if-ends_run.false (λ p q e. grind (arith, common_steps))

pub returns-in_default-2 : goal.returns-in_default-2
returns-in_default-2 c =
    not-a-send _ _ _ _ c.take_line-change.ensures c.tell-at.ensures c.ends_run.ensures
    c.if-ends_run.false (λ p q e. grind (arith, common_steps))
