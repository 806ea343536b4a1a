-- std's test is the definition's. Assumes nothing.
use Rattle.std.proofs.Common.{arith, rules}
use Rattle.std.proofs.lemmas.Grind.{common_steps}
use Rattle.sheet_words.specs.Reading.{after}
use Rattle.sheet_words.proofs.Begins.{same-begins}
use Rattle.sheet_words.proofs.after.Goals as goal

pub returns : goal.returns
unfolding after
returns c = first_of (search (rules, same-begins), grind (arith, common_steps, same-begins))
