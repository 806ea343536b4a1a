-- The letters before index i are lawful, so the verdict is that on the rest. Assumes nothing.
use Rattle.std.proofs.Common.{◌≡◌, refl, sym, ◌∙◌, Some, arith}
use Rattle.std.proofs.lemmas.Grind.{common_steps}
use Rattle.judging.proofs.Letters.{judging-other, judging-wrong, judging-on, judging-passed, judging-short}
use Rattle.judging.proofs.judge_letters.Goals as goal

pub loop-i-init : goal.loop-i-init
loop-i-init c = record { on-mesh = c.requires; rest = refl }

pub returns-in_err-h : goal.returns-in_err-h
returns-in_err-h c = grind (arith, common_steps, judging-other _ _ _ _ c.loop-i.invariant (omega arith))

pub returns-in_err-p : goal.returns-in_err-p
returns-in_err-p c =
    let named : c.read_letter.result ≡ Some c.in_ok-h.h = grind (arith, common_steps) in
    let wrong = judging-wrong _ _ _ _ c.loop-i.invariant (omega arith) c.read_letter.ensures named c.test_hop.ensures in
    grind (arith, common_steps, wrong)

pub loop-i-preserved : goal.loop-i-preserved
loop-i-preserved c =
    judging-on _ _ _ _ c.loop-i.invariant (omega arith) c.read_letter.ensures (grind (arith, common_steps)) c.test_hop.ensures (grind (arith, common_steps))

pub returns-then-is_there : goal.returns-then-is_there
returns-then-is_there c =
    judging-passed _ _ _ _ c.loop-i.invariant (omega arith) (omega arith) (sym c.if-is_there.true ∙ c.is_there.ensures)

pub returns-else-is_there : goal.returns-else-is_there
returns-else-is_there c =
    judging-short _ _ _ _ c.loop-i.invariant (omega arith) (omega arith) (sym c.if-is_there.false ∙ c.is_there.ensures)
