-- A space before the letters, if there are any. Assumes nothing.
use Rattle.std.proofs.Common.{◌≡◌, ◌<◌, length, arith}
use Rattle.std.proofs.lemmas.Bool.Decides.{nat_tests}
use Rattle.sheet_prints.proofs.Lines.{puts-no-letters, puts-letters}
use Rattle.sheet_prints.proofs.put_letters.Goals as goal

pub returns-then-is_empty : goal.returns-then-is_empty
returns-then-is_empty c =
    let none : length c.args.letters.now ≡ 0 = grind (arith, nat_tests) in
    puts-no-letters _ _ _ (omega arith) none

pub returns : goal.returns
returns c =
    let some : 0 < length c.args.letters.now = grind (arith, nat_tests) in
    puts-letters _ some c.put_byte-first.ensures c.put.ensures
