-- The bytes are tried in turn. Assumes nothing.
use Rattle.std.proofs.Common.{rules, tests, ◌∙◌, ltb}
use Rattle.std.proofs.lemmas.Iterator.{YieldsList-from_slice}
use Rattle.std.proofs.lemmas.Iterator.Search.{any_from_yields_List}
use Rattle.maps.proofs.Checks.{any-bad}
use Rattle.maps.proofs.has_bad_byte.Goals as goal

pub returns : goal.returns
returns c =
    any_from_yields_List (λ x. ltb 1 x) _ _ _ c.any.ensures.ran (YieldsList-from_slice c.args.map.now (cc)) (λ x b q k. search (rules, tests)) ∙ any-bad _
