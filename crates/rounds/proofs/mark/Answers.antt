-- The copy of the whole map is the map, and the rounds settle it. Assumes nothing.
use Rattle.std.proofs.Common.{ap, sym, ◌∙◌, length}
use Rattle.rounds.proofs.Copy.{copied_all}
use Rattle.rounds.proofs.mark.Goals as goal

pub returns : goal.returns
returns c =
    let size = c.requires ∙ ap (λ w. length w.map) (sym c.nodes.view_is) in
    let same = copied_all _ _ _ _ size c.copy_part.ensures in
    rw (same, c.nodes.view_is) at c.settle.ensures
