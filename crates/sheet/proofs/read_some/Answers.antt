-- Of a read that failed nothing is answered, else what came. Assumes nothing.
use Rattle.std.proofs.Common.{◌≡◌, Err, take, refl, arith, rules}
use Rattle.std.specs.Io.KnownBytes.{Keeps}
use Rattle.std.proofs.lemmas.Grind.{common_steps}
use Rattle.sheet.specs.declared.Failed.TheVariants.{Unread}
use Rattle.sheet.proofs.Going.{takes-none}
use Rattle.sheet.proofs.read_some.Goals as goal

pub returns-in_err-came-clause-takes : goal.returns-in_err-came-clause-takes
returns-in_err-came-clause-takes g c =
    let why : c.from_residual.result ≡ Err Unread = grind (arith, common_steps) in
    let kept : Keeps (g.R.Read.remaining c.args.from.now) (g.R.Read.remaining c.read.new.self) = first_of (search rules, grind (arith, common_steps)) in
    rw why (takes-none kept)

pub returns-clause-takes : goal.returns-clause-takes
returns-clause-takes g c =
    record {
      bytes = take c.in_ok-came.came c.read.new.buf;
      is = refl;
      came = grind (arith, common_steps);
      writes = grind (arith, common_steps);
      ends = grind (arith, common_steps);
      told = λ _. tt;
    }
