-- What stands in the list after a call that keeps its promise, and when a call keeps it. Assumes nothing.
use Rattle.std.proofs.Common.{Result, Ok, ◌≡◌, sym, ◌∙◌, List, append_assoc, ℕ, suc, ◌*◌, ◌≤◌, ◌<◌, arith, length, get_or, take, take_at}
use Rattle.mesh.specs.declared.Refusal.{Refusal}
use Rattle.mesh.specs.Mesh.{mesh}
use Rattle.mesh.specs.Tests.{first}
use Rattle.mesh.specs.Numbers.{answer, written}
use Rattle.mesh.specs.Maps.{map_tests}
use Rattle.mesh.proofs.Maps.{Accepted, accepted}
use Rattle.theory_boxes.specs.Boxes.{Box, boxes}
use Rattle.theory_boxes.specs.Boxing.{numbers, room_for, box_list, box_refusal, ListsBoxes}
use Rattle.theory_boxes.proofs.Filled.{filled, filled-length, filled_zero, filled-rest}
use Rattle.theory_boxes.proofs.Room.{numbers-length, numbers_fit, list-sized, unrefused, passes}

module _ {columns rows : ℕ} {map list : List ℕ} {r : Result ℕ Refusal} {after : List ℕ} (does : ListsBoxes columns rows map list r after) where
  abbrev bs : List Box
  bs = boxes (mesh columns rows map)

  pub refused-leaves : {k : ℕ} → box_refusal columns rows map list ≡ suc k → after ≡ list
  unfolding written
  refused-leaves e = does.writes ∙ rw e

  -- where nothing is refused
  module _ (none : box_refusal columns rows map list ≡ 0) where
    free : Accepted columns rows map
    free = accepted (unrefused columns rows map list none).0

    fits : length (numbers bs) ≤ room_for map
    fits = omega (arith, numbers-length bs, numbers_fit free)

    after_filled : after ≡ filled (numbers bs) (room_for map) list
    unfolding written box_list
    after_filled = does.writes ∙ rw (none, list-sized free) (append_assoc (numbers bs) _ _)

    pub length-stays : length after ≡ length list
    length-stays = rw after_filled (filled-length (numbers bs) (room_for map) list fits (unrefused columns rows map list none).1)

    pub front-numbers : take (4 * length bs) after ≡ numbers bs
    front-numbers = rw after_filled (take_at (numbers bs) _ _ (numbers-length bs))

    pub zeros-after : (j : ℕ) → 4 * length bs ≤ j → j < room_for map → get_or after j 0 ≡ 0
    zeros-after j p q = rw after_filled (filled_zero (numbers bs) (room_for map) list fits j (omega (arith, numbers-length bs)) q)

    pub rest-left : (j : ℕ) → room_for map ≤ j → get_or after j 0 ≡ get_or list j 0
    rest-left j p = rw after_filled (filled-rest (numbers bs) (room_for map) list fits j p)

-- Where nothing is refused the promise is kept if that number of boxes is answered and these numbers stand in the list.
pub lists-boxes : {columns rows : ℕ} {map list after : List ℕ} {n : ℕ} → first (map_tests columns rows map) ≡ 0 → room_for map ≤ length list →
    let bs = boxes (mesh columns rows map) in
    n ≡ length bs → after ≡ filled (numbers bs) (room_for map) list → ListsBoxes columns rows map list (Ok n) after
unfolding answer written box_list
lists-boxes {columns} {rows} {map} {list} clear room counted e =
    let none = passes columns rows map list clear room in
    record {
      answers = rw (none, counted);
      writes = e ∙ rw (none, list-sized (accepted clear)) (sym (append_assoc (numbers (boxes (mesh columns rows map))) _ _));
    }
