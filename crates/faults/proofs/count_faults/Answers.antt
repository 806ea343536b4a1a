-- One for each fault. Assumes nothing.
use Rattle.std.proofs.Common.{◌≡◌, ◌==◌, ◌∙◌, rules}
use Rattle.std.specs.List.{sum_by}
use Rattle.std.specs.Int.{from_bool}
use Rattle.faults.proofs.Counting.{faults-counted}
use Rattle.faults.proofs.count_faults.Goals as goal

pub returns : goal.returns
returns c =
    let e : c.sum.result ≡ sum_by (λ x. from_bool (x == 1)) c.args.map.now = search rules in
    e ∙ faults-counted _
