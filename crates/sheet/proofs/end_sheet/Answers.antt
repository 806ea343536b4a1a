-- The end is written where nothing failed before. Assumes nothing.
use Rattle.std.proofs.Common.{◌≡◌, true, Ok, Err, is_ok, refl, arith}
use Rattle.std.proofs.lemmas.Grind.{common_steps}
use Rattle.sheet.specs.declared.Failed.TheVariants.{Unwritten as Unanswered}
use Rattle.sheet.proofs.Ending.{ends}
use Rattle.sheet.proofs.end_sheet.Goals as goal

pub returns-in_err-write_whole : goal.returns-in_err-write_whole
returns-in_err-write_whole g c =
    let last : c.args.last ≡ Ok c.in_ok-read.read = grind (arith, common_steps) in
    let why : c.from_residual-in_err-write_whole.result ≡ Err Unanswered = grind (arith, common_steps) in
    let no : is_ok c.write_whole.result ≡ is_ok c.from_residual-in_err-write_whole.result = grind (arith, common_steps) in
    ends last c.finish-at.ensures (rw no at c.write_whole.ensures) (rw why refl)

pub returns : goal.returns
returns g c =
    let last : c.args.last ≡ Ok c.in_ok-read.read = grind (arith, common_steps) in
    let yes : is_ok c.write_whole.result ≡ true = grind (arith, common_steps) in
    ends last c.finish-at.ensures (rw yes at c.write_whole.ensures) tt
