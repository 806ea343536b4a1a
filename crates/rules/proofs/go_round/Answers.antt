-- A packet without a last hop goes by rule 6; a vertical last hop leads away from the row, which is rule 3; after any other rule 4 or 6 applies.
-- Assumes nothing.
use Rattle.std.proofs.Common.{◌≡◌}
use Rattle.mesh.specs.Rules.{toward, other_row}
use Rattle.rules.specs.Rows.{nears_row}
use Rattle.rules.proofs.Rules.{round-leaving, round-across}
use Rattle.rules.proofs.go_round.Goals as goal

pub returns-in-None : goal.returns-in-None
unfolding other_row
returns-in-None c = rw c.in-None.is c.across.ensures

pub returns-in-Some : goal.returns-in-Some
unfolding nears_row toward
returns-in-Some c =
    round-leaving _ _ _ _ c.in-Some.is c.is_vertical.ensures c.if-is_vertical.true c.requires.1 c.leaving.ensures

pub returns-in-Some-2 : goal.returns-in-Some-2
returns-in-Some-2 c =
    let same : c.in-Some.h ≡ c.in-Some-2.h = cc in
    round-across _ _ _ _ c.in-Some-2.is (rw same at c.is_vertical.ensures) c.if-is_vertical.false c.across-in-Some-2.ensures
