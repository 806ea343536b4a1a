-- A last hop toward the row goes on by rule 5. Assumes nothing.
use Rattle.std.proofs.Common.{refl, sym, ◌∙◌}
use Rattle.mesh.specs.Rules.{toward}
use Rattle.mesh.specs.Hops.{trip_of}
use Rattle.rules.specs.Rows.{nears_row}
use Rattle.rules.proofs.Rules.{near_again}
use Rattle.rules.proofs.other_row.Goals as goal

pub returns-then-is_nearing : goal.returns-then-is_nearing
unfolding nears_row toward
returns-then-is_nearing c =
    let nears = sym c.is_nearing.ensures ∙ c.if-is_nearing.true in
    near_again _ _ _ _ (c.toward.ensures (trip_of c.args.network c.args.nodes.now c.args.p) refl) nears (c.nearing.ensures _)
