-- How many numbers the boxes have, and when there is room for them. Assumes nothing.
use Rattle.std.proofs.Common.{◌≡◌, refl, sym, ◌∙◌, ◌↔◌, inl, inr, List, [], ◌∷◌, ℕ, zero, suc, ◌*◌, ◌≤◌, ◌<◌, arith, ltb-true, ltb-false, lt-ltb, le-ltb, ltb, length, length-append}
use Rattle.std.proofs.lemmas.Bool.{cases_Bool}
use Rattle.std.proofs.lemmas.List.{length-replicate}
use Rattle.mesh.specs.Mesh.{Mesh, mesh}
use Rattle.mesh.specs.Tests.{◌gives◌, Test, first}
use Rattle.mesh.specs.Maps.{map_tests}
use Rattle.mesh.proofs.Tests.{numbered, numbered_to, NoneHolds, first_some, first-none, first-most, clear-before, clear_next}
use Rattle.mesh.proofs.Maps.{Accepted, map-numbered}
use Rattle.theory_boxes.specs.Boxes.{Box, fault_boxes, merge_all, boxes}
use Rattle.theory_boxes.specs.Boxing.{numbers, room_for, box_list, box_refusal}
use Rattle.theory_boxes.proofs.Orders.{reordered-length, merges-shorter}
use Rattle.theory_boxes.proofs.Merging.{all-merges}
use Rattle.theory_boxes.proofs.Faults.{faults-counted}
use Rattle.theory_boxes.proofs.Sorting.{sorted-reordered}

pub numbers-length : (bs : List Box) → length (numbers bs) ≡ 4 * length bs
unfolding numbers
numbers-length [] = refl
numbers-length (b ∷ bs) = omega (arith, numbers-length bs)

-- merging and sorting make no more of them
boxes-fewer : (w : Mesh) → length (boxes w) ≤ length (fault_boxes w)
unfolding boxes
boxes-fewer w =
    let fs = fault_boxes w in
    omega (arith, reordered-length (sorted-reordered (merge_all (length fs) fs)), merges-shorter (all-merges (length fs) fs))

-- of a map that refusals 1 to 5 let pass
module _ {columns rows : ℕ} {map : List ℕ} (a : Accepted columns rows map) where
  abbrev w : Mesh
  w = mesh columns rows map

  pub numbers_fit : 4 * length (boxes w) ≤ room_for map
  unfolding room_for
  numbers_fit = omega (arith, boxes-fewer w, faults-counted a)

  pub list-sized : length (box_list w) ≡ room_for map
  unfolding box_list
  list-sized = rw (length-append, length-replicate) (omega (arith, numbers-length (boxes w), numbers_fit))

-- Refusal 10 comes after 1 to 5.
module _ (columns rows : ℕ) (map list : List ℕ) where
  abbrev room : List Test
  room = ltb (length list) (room_for map) gives 10 ∷ []

  -- where nothing is refused
  pub unrefused : box_refusal columns rows map list ≡ 0 → (first (map_tests columns rows map) ≡ 0) × (room_for map ≤ length list)
  unfolding box_refusal numbered NoneHolds map_tests
  unrefused h =
      let (_, (_, (_, (_, (_, (enough, _)))))) = first-none _ refl h in
      let fits : room_for map ≤ length list = omega (arith, ltb-false) in
      (clear-before (map_tests columns rows map) room h, fits)

  -- where 1 to 5 are not, the room decides
  room-decides : first (map_tests columns rows map) ≡ 0 → box_refusal columns rows map list ≡ first room
  unfolding box_refusal
  room-decides clear = clear_next (map_tests columns rows map) room (map-numbered columns rows map) clear

  pub passes : first (map_tests columns rows map) ≡ 0 → room_for map ≤ length list → box_refusal columns rows map list ≡ 0
  unfolding first
  passes clear h = room-decides clear ∙ rw (le-ltb (length list) (room_for map) h)

  map-most : first (map_tests columns rows map) ≤ 5
  unfolding numbered_to map_tests
  map-most = first-most 5 (map_tests columns rows map) refl

  room-told : box_refusal columns rows map list ≡ 10 → (first (map_tests columns rows map) ≡ 0) × (length list < room_for map)
  unfolding box_refusal first
  room-told h = by (first (map_tests columns rows map)) refl
    where
      by : (k : ℕ) → first (map_tests columns rows map) ≡ k → (first (map_tests columns rows map) ≡ 0) × (length list < room_for map)
      by zero e =
          let r : first room ≡ 10 = sym (room-decides e) ∙ h in
          (e, elim (cases_Bool (ltb (length list) (room_for map))) [ inl u ↦ ltb-true _ _ u | inr u ↦ absurd (omega (arith, rw u at r)) ])
      by (suc k) e = absurd (omega (arith, first_some k (map_tests columns rows map) room e, map-most))

  pub room-refused : box_refusal columns rows map list ≡ 10 ↔ ((first (map_tests columns rows map) ≡ 0) × (length list < room_for map))
  unfolding first
  room-refused = (room-told, λ (clear, h). room-decides clear ∙ rw (lt-ltb _ _ h))
