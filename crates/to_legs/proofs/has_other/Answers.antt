-- The letters are looked at from the front. Assumes nothing.
use Rattle.std.proofs.Common.{◌≡◌, false, ◌||◌, fold, ◌∙◌, arith}
use Rattle.std.proofs.lemmas.Grind.{common_steps}
use Rattle.mesh.specs.Headings.{named}
use Rattle.theory_legs.specs.Converting.{is_other}
use Rattle.to_legs.proofs.Letters.{gathered-other}
use Rattle.to_legs.proofs.has_other.Goals as goal

pub returns : goal.returns
returns c =
    let e : c.fold.result ≡ fold (λ other x. other || is_other (named x)) false c.args.letters.now = grind (arith, common_steps) in
    e ∙ gathered-other c.args.letters.now
