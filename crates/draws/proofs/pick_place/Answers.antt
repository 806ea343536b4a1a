-- The picked number is below the number of places, and its place is worked out by a division. Assumes nothing.
use Rattle.std.proofs.Common.{◌-◌, arith, rules, div-le_self}
use Rattle.draws.proofs.Picks.{number-small, place-picked}
use Rattle.draws.proofs.pick_place.Goals as goal

pub overflow_cast-k : goal.overflow_cast-k
overflow_cast-k c =
    let (w, p, h, q) = c.requires in
    omega (arith, number-small _ _ w h (search rules) c.pick-k.ensures p q)

pub overflow_add-result : goal.overflow_add-result
overflow_add-result c =
    let (w, p, h, q) = c.requires in
    rw c.from.ensures
    (omega (
      arith,
      number-small _ _ w h (search rules) c.pick-k.ensures p q,
      div-le_self c.pick-k.result (c.args.columns - 4),
    ))

pub returns : goal.returns
returns c = rw (c.from.ensures, c.from-2.ensures) (place-picked _ _ c.requires.0 c.requires.2 (search rules) c.pick-k.ensures)
