-- The tests are made in the order of the definition; a hop straight on passes those of turns; a hop that stays on the mesh leads to the node
-- whose mark is looked up. Assumes nothing.
use Rattle.std.proofs.Common.{sym, ◌∙◌}
use Rattle.hops.proofs.Landing.{stays-lands, packet-lands}
use Rattle.hops.proofs.Ways.{moved-one}
use Rattle.hops.proofs.Testing.{straight-ahead, straight-may, leaves, turns-back, breaks-1, breaks-2, enters}
use Rattle.hops.proofs.test_hop.Goals as goal

pub returns-then-not-stays : goal.returns-then-not-stays
returns-then-not-stays c = leaves _ _ _ _ c.stays.ensures c.if-not-stays.true

pub moved_by-after-requires : goal.moved_by-after-requires
moved_by-after-requires c = stays-lands c.requires (rw (← c.nodes.view_is) c.nodes.invariant) _ (sym c.stays.ensures ∙ c.if-not-stays.false)

pub enter-requires : goal.enter-requires
enter-requires c =
    packet-lands _ _ c.requires (sym c.stays.ensures ∙ c.if-not-stays.false) (c.moved_by-after.ensures ∙ moved-one _ _)

pub returns-then-is_last : goal.returns-then-is_last
returns-then-is_last c =
    let straight = sym c.is_last.ensures ∙ c.if-is_last.true in
    enters _ _ _ _ c.stays.ensures c.if-not-stays.false (c.moved_by-after.ensures ∙ moved-one _ _)
    (straight-ahead _ _ straight) (straight-may _ _ _ _ straight) c.enter.ensures

pub returns-then-turns_back : goal.returns-then-turns_back
returns-then-turns_back c =
    turns-back _ _ _ _ c.stays.ensures c.if-not-stays.false c.turns_back.ensures
    c.if-turns_back.true

pub returns-in-Some-Rule1 : goal.returns-in-Some-Rule1
returns-in-Some-Rule1 c =
    breaks-1 _ _ _ _ c.stays.ensures c.if-not-stays.false c.turns_back.ensures
    c.if-turns_back.false c.hop_breaks.ensures (c.in-Some-Rule1.is ∙ rw c.in-Some-Rule1.field-0-is)

pub returns-in-Some-Rule2 : goal.returns-in-Some-Rule2
returns-in-Some-Rule2 c =
    breaks-2 _ _ _ _ c.stays.ensures c.if-not-stays.false c.turns_back.ensures
    c.if-turns_back.false c.hop_breaks.ensures (c.in-Some-Rule2.is ∙ rw c.in-Some-Rule2.field-0-is)

pub enter-requires-in-None : goal.enter-requires-in-None
enter-requires-in-None c =
    packet-lands _ _ c.requires (sym c.stays.ensures ∙ c.if-not-stays.false) (c.moved_by-after.ensures ∙ moved-one _ _)

pub returns-in-None : goal.returns-in-None
returns-in-None c =
    enters _ _ _ _ c.stays.ensures c.if-not-stays.false (c.moved_by-after.ensures ∙ moved-one _ _)
    (sym c.turns_back.ensures ∙ c.if-turns_back.false)
    (sym c.hop_breaks.ensures ∙ c.in-None.is) c.enter-in-None.ensures
