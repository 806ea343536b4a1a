-- A space, a digit, and up to two digits more. Assumes nothing.
use Rattle.std.proofs.Common.{◌≡◌, ◌∙◌, [], ◌∷◌, None, Some, arith}
use Rattle.std.proofs.lemmas.Grind.{common_steps}
use Rattle.sheet_words.specs.Reading.{after, digit}
use Rattle.sheet_words.proofs.Digits.{number-none, number-some}
use Rattle.sheet_words.proofs.Begins.{spaced-none, spaced-number}
use Rattle.sheet_words.proofs.read_number.Goals as goal

pub returns : goal.returns
returns c =
    let space : after (32 ∷ []) c.args.text.now ≡ Some c.in_ok-after.field-0.now = grind (arith, common_steps) in
    let one : digit c.in_ok-after.field-0.now ≡ Some (c.in_ok-first.first, c.in_ok-first.rest.now) = grind (arith, common_steps) in
    c.read_more.ensures ∙ number-some _ _ _ one ∙ spaced-number _ _ space

pub returns-in_err-after : goal.returns-in_err-after
returns-in_err-after c = grind (arith, common_steps, spaced-none)

pub returns-in_err-first : goal.returns-in_err-first
returns-in_err-first c =
    let space : after (32 ∷ []) c.args.text.now ≡ Some c.in_ok-after.field-0.now = grind (arith, common_steps) in
    let no : digit c.in_ok-after.field-0.now ≡ None = grind (arith, common_steps) in
    grind (arith, common_steps, number-none _ no, spaced-number _ _ space)
