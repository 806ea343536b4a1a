-- The last hop is compared with the way to the destination's row. Assumes nothing.
use Rattle.std.proofs.Common.{refl, []}
use Rattle.mesh.specs.declared.Network.TheVariants.{First}
use Rattle.mesh.specs.Mesh.{mesh}
use Rattle.mesh.specs.Rules.{toward}
use Rattle.mesh.specs.Hops.{trip_of}
use Rattle.rules.specs.Rows.{nears_row}
use Rattle.rules.proofs.is_nearing.Goals as goal

pub returns : goal.returns
unfolding nears_row toward
returns c = rw (← c.toward.ensures (trip_of First (mesh 0 0 []) c.args.p) refl) c.is_last.ensures
