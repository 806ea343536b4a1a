-- The refusals in their order, and where none applies what stands in the list. Assumes nothing.
use Rattle.std.specs.Prelude.{Result, Ok, Err}
use mathlib.Core.Path.{◌≡◌, refl, ap, sym, ◌∙◌}
use mathlib.Core.List.{List, append-nil}
use Prim.Native.Nat.{ℕ, zero, suc, ◌+◌, ◌*◌, ◌≤◌, ◌<◌}
use native.Mathlib.Nat.{sub-zero}
use native.Mathlib.Omega.{arith}
use lib.ListN.{length, get_or}
use Rattle.mesh.specs.declared.Refusal.{Refusal}
use Rattle.mesh.specs.declared.Refusal.TheVariants.{Room as NoRoom}
use Rattle.mesh.specs.Mesh.{Mesh, mesh}
use Rattle.mesh.specs.Tests.{first}
use Rattle.mesh.specs.Numbers.{number}
use Rattle.mesh.specs.Nodes.{how_many}
use Rattle.mesh.specs.Maps.{map_tests}
use Rattle.mesh.proofs.Numbers.{answer-refused, written-refused}
use Rattle.mesh.proofs.Tests.{told-refused}
use Rattle.mesh.proofs.Maps.{accepted}
use Rattle.mesh.proofs.Counts.{how_many-le}
use Rattle.maps.proofs.Checks.{clear-few}
use Rattle.theory_boxes.specs.Boxes.{fault_boxes, boxes}
use Rattle.theory_boxes.specs.Merging.{Merges}
use Rattle.theory_boxes.specs.Boxing.{numbers, room_for, box_refusal, ListsBoxes}
use Rattle.theory_boxes.proofs.Orders.{merges-shorter}
use Rattle.theory_boxes.proofs.Theorems.{any_order, faults-are-boxes, refusal-10}
use Rattle.theory_boxes.proofs.Filled.{filled_is}
use Rattle.theory_boxes.proofs.Room.{numbers-length}
use Rattle.theory_boxes.proofs.Boxing.{lists-boxes}
use Rattle.box_lists.specs.Lists.{box_at, boxes_from, Room}
use Rattle.box_lists.specs.Sorting.{Sorts}
use Rattle.box_lists.proofs.Places.{length-boxes, no-two-close}
use Rattle.boxing.specs.Steps.{faults_from, Ready, Advances}
use Rattle.boxing.proofs.Clearing.{Cleared}
use Rattle.boxing.proofs.Faults.{from_all, from_end}

-- a number of the boxes from box i on
number_at : (xs : List ℕ) (i n j : ℕ) → j < 4 * n → get_or (numbers (boxes_from xs i n)) j 0 ≡ get_or xs (4 * i + j) 0
unfolding numbers boxes_from box_at
number_at xs i zero j h = absurd (omega arith)
number_at xs i (suc n) zero h = let e : 4 * i + 0 ≡ 4 * i = omega arith in rw e
number_at xs i (suc n) (suc zero) h = refl
number_at xs i (suc n) (suc (suc zero)) h = refl
number_at xs i (suc n) (suc (suc (suc zero))) h = refl
number_at xs i (suc n) (suc (suc (suc (suc j)))) h =
    let e : 4 * i + suc (suc (suc (suc j))) ≡ 4 * suc i + j = omega arith in
    rw e (number_at xs (suc i) n j (omega arith))

pub few : (columns rows : ℕ) (map : List ℕ) {n : ℕ} → first (map_tests columns rows map) ≡ 0 → n ≡ how_many 1 map → n ≤ 4096
few columns rows map clear count = omega (arith, how_many-le 1 map, clear-few columns rows map clear)

module _ (columns rows : ℕ) (map list : List ℕ) where
  refused : (why : Refusal) → box_refusal columns rows map list ≡ number why → ListsBoxes columns rows map list (Err why) list
  refused why e = record { answers = rw e (sym (answer-refused why _)); writes = rw e (sym (written-refused why _ _)) }

  pub map-refused : {why : Refusal} → number why ≡ first (map_tests columns rows map) → ListsBoxes columns rows map list (Err why) list
  unfolding box_refusal
  map-refused {why} told =
      let x : Result ℕ Refusal = Err why in
      refused why (told-refused (map_tests columns rows map) _ {x = x} told refl)

  module _ (clear : first (map_tests columns rows map) ≡ 0) {n : ℕ} (count : n ≡ how_many 1 map) where
    abbrev w : Mesh
    w = mesh columns rows map

    pub room-refused : length list < 4 * n → ListsBoxes columns rows map list (Err NoRoom) list
    room-refused h = refused NoRoom ((refusal-10 columns rows map list).1 (clear, rw count at h))

    module _ (enough : 4 * n ≤ length list) where
      all : length (faults_from w 0) ≡ n
      all = rw (from_all w) (faults-are-boxes (accepted clear) ∙ sym count)

      pub ready : Ready w 0 list 0 0
      ready =
          record {
            spread = record { far = λ i j p q. absurd (omega arith); rising = λ i j p q. absurd (omega arith); tall = λ i p. absurd (omega arith) };
            below = record { below = λ i p. absurd (omega arith) };
            room = record { room = omega (arith, all) };
          }

      module _ {k : ℕ} {ys : List ℕ} (merged : Advances w rows list 0 0 (length map) k ys) where
        all-merged : Merges (fault_boxes w) (boxes_from ys 0 k)
        unfolding boxes_from
        all-merged = rw (from_all w, from_end w (length map) (omega arith), append-nil) at merged.merges

        pub fewer : k ≤ n
        fewer = omega (arith, merges-shorter all-merged, length-boxes ys 0 k, faults-are-boxes (accepted clear), count)

        pub sort-room : Room ys k
        sort-room = record { room = omega (arith, fewer, merged.beyond.size) }

        module _ {zs : List ℕ} (sorts : Sorts ys 0 k zs) where
          pub clear_room : (4 * k ≤ 4 * n) × (4 * n ≤ length zs)
          clear_room = (omega (arith, fewer), omega (arith, sorts.beyond.size, merged.beyond.size))

          -- the boxes in the list are those of the definition
          listed : boxes_from zs 0 k ≡ boxes w
          listed =
              rw sub-zero at sorts.boxes ∙
              any_order w (accepted clear).size all-merged (no-two-close ys 0 k (λ i j p q. merged.spread.far i j p (omega arith)))

          counted : k ≡ length (boxes w)
          counted = sym (length-boxes zs 0 k) ∙ ap length listed

          pub boxes-done : {after : List ℕ} → Cleared zs (4 * k) (4 * n) after → ListsBoxes columns rows map list (Ok k) after
          unfolding room_for
          boxes-done {after} clears =
              let room : 4 * n ≡ 4 * how_many 1 map = ap (λ x. 4 * x) count in
              let last : length (numbers (boxes w)) ≡ 4 * k = numbers-length (boxes w) ∙ ap (λ x. 4 * x) (sym counted) in
              lists-boxes clear (rw (← room) enough) counted
              (rw (← room)
              (filled_is (numbers (boxes w)) (4 * n) list (omega (arith, fewer, last)) enough
              (clears.size ∙ sorts.beyond.size ∙ merged.beyond.size)
              (λ j h. in-front clears j (omega (arith, last)))
              (λ j p q. clears.clear j (omega (arith, last)) q)
              (λ j p. clears.after j p ∙ sorts.beyond.kept j (omega (arith, fewer)) ∙ merged.beyond.kept j (omega (arith, all)))))
            where
              in-front : Cleared zs (4 * k) (4 * n) after → (j : ℕ) → j < 4 * k → get_or after j 0 ≡ get_or (numbers (boxes w)) j 0
              in-front c j h =
                  let e : 4 * 0 + j ≡ j = omega arith in
                  c.before j h ∙ sym (rw (listed, e) at (number_at zs 0 k j h))
