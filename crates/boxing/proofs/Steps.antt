-- What a step of merging does with the list, and one step after another. Assumes nothing.
use mathlib.Core.Path.{◌≡◌, refl, sym, ◌∙◌, ap, subst}
use mathlib.Core.Bool.{true}
use mathlib.Core.List.Permᴰ
use mathlib.Core.List.{List, [], ◌∷◌, ◌++◌}
use Prim.Native.Nat.{ℕ, ◌+◌, ◌-◌, ◌*◌, ◌≤◌, ◌<◌}
use native.Mathlib.Omega.{arith}
use borrow.Author.Tests.{ne_eqb}
use lib.ListN.{length, get_or, length-append}
use Rattle.mesh.specs.Mesh.{Mesh}
use Rattle.mesh.specs.Nodes.{is_bad}
use Rattle.nodes.specs.Sized.{Sized}
use Rattle.nodes.proofs.Lookup.{is_bad-test, row_fits}
use Rattle.theory_boxes.specs.Boxes.{Box}
use Rattle.theory_boxes.specs.Merging.{Reordered, begin}
use Rattle.theory_boxes.proofs.Orders.{merges-trans, merges-from, merges-beside, merges-shorter}
use Rattle.faults.specs.Groups.{Group}
use Rattle.faults.proofs.Groups.{chain-inside}
use Rattle.boxes.specs.Corners.{row_box}
use Rattle.box_lists.specs.Lists.{boxes_from, Room}
use Rattle.box_lists.specs.Merging.{Spread, Below, Ends, TakesIn}
use Rattle.box_lists.proofs.Lists.{kept-all, kept-both, kept-later, room-kept}
use Rattle.box_lists.proofs.Places.{length-boxes}
use Rattle.boxing.specs.Steps.{OnRow, faults_from, Ready, Advances, LooksAt, MergesRow}
use Rattle.boxing.specs.declared.Step.{Step}
use Rattle.boxing.proofs.Faults.{from-fault, from-sound}
use Rattle.boxing.proofs.Rows.{chain-from, chain-merges}

append-order : (l m : List Box) → Reordered (l ++ m) (m ++ l)
append-order [] m = Permᴰ.symm (Permᴰ.append-nil m)
append-order (a ∷ l) m = Permᴰ.trans (Permᴰ.cons refl (append-order l m)) (Permᴰ.symm (Permᴰ.middle a m l))

below-later : {xs : List ℕ} {n r s : ℕ} → r ≤ s → Below xs n r → Below xs n s
below-later h b = record { below = λ i p. let u = b.below i p in omega arith }

module _ {w : Mesh} {r : ℕ} {xs : List ℕ} {i n : ℕ} where
  -- nothing is done
  advances-none : Ready w r xs i n → Advances w r xs i n i n xs
  advances-none a = record { merges = begin (Permᴰ.refl _); spread = a.spread; below = a.below; beyond = kept-all xs _ }

  module _ {j k : ℕ} {ys : List ℕ} (a : Advances w r xs i n j k ys) where
    -- there are no more boxes and faults than there were
    fewer : k + length (faults_from w j) ≤ n + length (faults_from w i)
    fewer =
        let after = length-append (boxes_from ys 0 k) (faults_from w j) in
        let before = length-append (boxes_from xs 0 n) (faults_from w i) in
        omega (arith, merges-shorter a.merges, after, before, length-boxes ys 0 k, length-boxes xs 0 n)

    -- the next step, in the same row or a later one
    advances-ready : {s : ℕ} → r ≤ s → Room xs (n + length (faults_from w i)) → Ready w s ys j k
    advances-ready h room =
        record {
          spread = a.spread;
          below = below-later h a.below;
          room = record { room = let m = room-kept a.beyond room in omega (arith, m.room, fewer) };
        }

    advances-later : {s : ℕ} → r ≤ s → Advances w s xs i n j k ys
    advances-later h = record { merges = a.merges; spread = a.spread; below = below-later h a.below; beyond = a.beyond }

    advances-both : {s l m : ℕ} {zs : List ℕ} → Advances w s ys j k l m zs → Advances w s xs i n l m zs
    advances-both b =
        record {
          merges = merges-trans a.merges b.merges;
          spread = b.spread;
          below = b.below;
          beyond = kept-both a.beyond (kept-later (omega (arith, fewer)) b.beyond);
        }

-- One node of a row.
module _ {w : Mesh} (sized : Sized w.columns w.rows w.map) {r i : ℕ} (on : OnRow w r i) where
  pub row-end : r * w.columns + w.columns ≤ length w.map
  row-end = (row_fits sized on.row).0

  pub row-few : r * w.columns + w.columns ≤ 4096
  row-few = (row_fits sized on.row).1

  inside : i < length w.map
  inside = omega (arith, on.below, row-end)

  module _ {xs : List ℕ} {n : ℕ} (a : Ready w r xs i n) where
    -- it is sound
    advances-sound : get_or w.map i 0 ≡ 0 → Advances w r xs i n (i + 1) n xs
    unfolding is_bad
    advances-sound e =
        record { merges = rw (from-sound w i inside (rw e)) (begin (Permᴰ.refl _)); spread = a.spread; below = a.below; beyond = kept-all xs _ }

    pub looks-sound : get_or w.map i 0 ≡ 0 → LooksAt w r xs i n (record { boxes = n; next = i + 1 }) xs
    looks-sound e = record { done = advances-sound e; onward = omega arith; within = omega (arith, on.below) }

    -- it is faulty: the box round it and those after it that are close is merged with the others
    module _ (faulty : get_or w.map i 0 ≡ 0 → ⊥) where
      fault : is_bad (get_or w.map i 0) ≡ true
      fault = sym (is_bad-test (get_or w.map i 0)) ∙ rw (ne_eqb (get_or w.map i 0) 0 faulty)

      some : 0 < length (faults_from w i)
      some = rw (from-fault w i inside fault) (omega arith)

      module _ {last : ℕ} (g : Group w.map (r * w.columns + w.columns) i last) {b : Box} (eb : b ≡ row_box r (i - r * w.columns) (last - r * w.columns)) where
        pub fault-ready : Room xs (n + 1) × Spread xs n × Ends xs n b
        unfolding row_box
        fault-ready = (record { room = omega (arith, a.room.room, some) }, a.spread, rw eb (record { others = a.below; tall = omega arith }))

        advances-fault : {k : ℕ} {ys : List ℕ} → TakesIn xs n b k ys → Advances w r xs i n (last + 1) k ys
        unfolding row_box
        advances-fault t =
            record {
              merges =
                  merges-from (append-order (boxes_from xs 0 n) (faults_from w i))
                  (merges-trans (merges-beside (boxes_from xs 0 n) (chain-merges w.columns w.rows w.map sized r on.row i on.from fault g.chain))
                  (merges-from (Permᴰ.cons refl (append-order (faults_from w (last + 1)) (boxes_from xs 0 n)))
                  (merges-beside (faults_from w (last + 1)) (rw eb at t.merges))));
              spread = t.spread;
              below = rw eb at t.below;
              beyond = kept-later (omega (arith, some)) t.beyond;
            }

        pub looks-fault : {k : ℕ} {ys : List ℕ} → TakesIn xs n b k ys → LooksAt w r xs i n (record { boxes = k; next = last + 1 }) ys
        looks-fault t = record { done = advances-fault t; onward = omega (arith, chain-from g.chain); within = omega (arith, chain-inside g.chain) }

-- Of a row the nodes before a step's next index are looked at.
pub record Along (w : Mesh) (r : ℕ) (xs : List ℕ) (n : ℕ) (x : Step) (ys : List ℕ) : Type 0 where
  pub from : r * w.columns ≤ x.next
  pub within : x.next ≤ r * w.columns + w.columns
  pub done : Advances w r xs (r * w.columns) n x.next x.boxes ys

module _ {w : Mesh} {r : ℕ} {xs : List ℕ} {n : ℕ} (ready : Ready w r xs (r * w.columns) n) where
  pub along-none : Along w r xs n (record { boxes = n; next = r * w.columns }) xs
  along-none = record { from = omega arith; within = omega arith; done = advances-none ready }

  module _ {x : Step} {ys : List ℕ} (a : Along w r xs n x ys) where
    pub along-ready : r < w.rows → x.next < r * w.columns + w.columns → OnRow w r x.next × Ready w r ys x.next x.boxes
    along-ready on h = (record { row = on; from = a.from; below = h }, advances-ready a.done (omega arith) ready.room)

    pub along-more : {y : Step} {zs : List ℕ} → LooksAt w r ys x.next x.boxes y zs → Along w r xs n y zs
    along-more b =
        record {
          from = omega (arith, a.from, b.onward);
          within = b.within;
          done = advances-both a.done b.done;
        }

    pub along-all : r * w.columns + w.columns ≤ x.next → MergesRow w r xs n x.boxes ys
    along-all h = let e : x.next ≡ r * w.columns + w.columns = omega (arith, a.within) in rw e at a.done

-- Row by row: the rows before row r are looked at.
abbrev pub Rowwise : Mesh → List ℕ → ℕ → ℕ → List ℕ → Type 0
Rowwise w xs r n ys = Advances w r xs 0 0 (r * w.columns) n ys

module _ {w : Mesh} {xs : List ℕ} (ready : Ready w 0 xs 0 0) where
  pub rows_none : Rowwise w xs 0 0 xs
  rows_none = let e : 0 * w.columns ≡ 0 = omega arith in rw e (advances-none ready)

  module _ {r n : ℕ} {ys : List ℕ} (a : Rowwise w xs r n ys) where
    pub row-ready : Ready w r ys (r * w.columns) n
    row-ready = advances-ready a (omega arith) ready.room

    pub rows_more : {k : ℕ} {zs : List ℕ} → MergesRow w r ys n k zs → Rowwise w xs (r + 1) k zs
    rows_more b =
        let e : (r + 1) * w.columns ≡ r * w.columns + w.columns = omega arith in
        rw e (advances-later (advances-both a b) (omega arith))

    pub rows_all : Sized w.columns w.rows w.map → r ≡ w.rows → Advances w w.rows xs 0 0 (length w.map) n ys
    rows_all s e =
        let size : w.rows * w.columns ≡ length w.map = omega (arith, s.size) in
        let d : r * w.columns ≡ length w.map = ap (λ k. k * w.columns) e ∙ size in
        subst (λ k. Advances w k xs 0 0 (length w.map) n ys) e (rw d at a)
