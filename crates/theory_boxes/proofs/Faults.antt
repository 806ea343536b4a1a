-- The boxes of the faults of a map. Assumes nothing.
use Rattle.std.proofs.Common.{◌≡◌, refl, inl, inr, Bool, true, List, [], ◌∷◌, ℕ, zero, suc, ◌+◌, ◌*◌, ◌/◌, ◌%◌, ◌≤◌, ◌<◌, zero-add, add-zero, add-suc, suc-add, arith, eqb, length, get_or}
use Rattle.std.proofs.lemmas.Bool.{cases_Bool, and_parts}
use mathlib.Core.List.{Memᴰ}
use Rattle.mesh.specs.Mesh.{Mesh, mesh, on_mesh}
use Rattle.mesh.specs.Nodes.{is_bad, how_many, bad}
use Rattle.mesh.specs.Blocks.{select}
use Rattle.mesh.proofs.Hops.{on-mesh, is-on-mesh}
use Rattle.mesh.proofs.Index.{place_of, index-row, index-column, index-within}
use Rattle.mesh.proofs.Maps.{Accepted}
use Rattle.theory_blocks.proofs.Selected.{mem-selected, selected-mem}
use Rattle.theory_boxes.specs.Boxes.{Box, node_box, fault_boxes}

pub record OfFault (w : Mesh) (b : Box) : Type 0 where
  pub row : ℕ
  pub column : ℕ
  pub is-bad : bad w row column ≡ true
  pub is : b ≡ node_box row column

-- of any map with a number for each node
module _ (w : Mesh) (size : length w.map ≡ w.columns * w.rows) where
  pub mem-faults : (b : Box) → Memᴰ b (fault_boxes w) → OfFault w b
  unfolding fault_boxes bad
  mem-faults b m =
      let s = mem-selected _ _ (length w.map) 0 b m in
      let f = place_of w.columns w.rows s.index (omega (arith, s.below)) in
      record {
        row = s.index / w.columns;
        column = s.index % w.columns;
        is-bad = rw (is-on-mesh w _ _ f.row f.column, f.index) s.test;
        is = s.is;
      }

  pub faults-mem : (r c : ℕ) → bad w r c ≡ true → Memᴰ (node_box r c) (fault_boxes w)
  unfolding fault_boxes bad
  faults-mem r c e =
      let (on, b) = and_parts (on_mesh w r c) _ e in
      let (p, q) = on-mesh w r c on in
      rw (index-row w.columns r c q, index-column w.columns r c q) at
      (selected-mem (λ i. is_bad (get_or w.map i 0)) (λ i. node_box (i / w.columns) (i % w.columns)) (length w.map) 0 (r * w.columns + c)
      (omega arith)
      (omega (arith, index-within w.columns r c q w.rows p))
      b)

fault-is-one : (x : ℕ) → x ≤ 1 → is_bad x ≡ eqb x 1
unfolding is_bad
fault-is-one zero h = refl
fault-is-one (suc zero) h = refl
fault-is-one (suc (suc x)) h = absurd (omega arith)

-- as many are selected as have the number 1, where the test is for that number
selected-ones : {A : Type 0} (t : ℕ → Bool) (f : ℕ → A) (xs : List ℕ) (i : ℕ) → ((j : ℕ) → j < length xs → t (i + j) ≡ eqb (get_or xs j 0) 1) →
    length (select t f (length xs) i) ≡ how_many 1 xs
unfolding select how_many
selected-ones t f [] i h = refl
selected-ones t f (x ∷ xs) i h =
    let here : t i ≡ eqb x 1 = rw add-zero at (h 0 (omega arith)) in
    let rest = selected-ones t f xs (suc i) (λ j k. rw (suc-add, ← add-suc) (h (suc j) (omega arith))) in
    elim (cases_Bool (eqb x 1)) [ inl e ↦ rw (here, e) (omega arith) | inr e ↦ rw (here, e) (omega arith) ]

-- of a map that refusals 1 to 5 let pass
pub faults-counted : {columns rows : ℕ} {map : List ℕ} → Accepted columns rows map → length (fault_boxes (mesh columns rows map)) ≡ how_many 1 map
unfolding fault_boxes
faults-counted {map = map} a = selected-ones _ _ map 0 (λ j h. rw zero-add (fault-is-one _ (a.bytes j h)))
