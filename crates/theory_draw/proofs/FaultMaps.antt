-- The map with faults at allowed places: it passes refusals 3 to 5, and its number of faulty nodes is the number of distinct places. Assumes nothing.
use Rattle.std.proofs.Common.{◌≡◌, refl, sym, ap, ◌∙◌, inl, inr, Bool, true, false, cond, List, [], ◌∷◌, ℕ, ◌+◌, ◌*◌, ◌/◌, ◌%◌, ◌≤◌, ◌<◌, zero-add, arith, eqb-true, eq-eqb, ltb, eqb, length, get_or, length-set, get_or-set_same, get_or-set_other}
use Rattle.std.proofs.lemmas.Bool.{cases_Bool, and_parts, and_from}
use Rattle.std.proofs.lemmas.List.{length-replicate, get_or-replicate}
use Rattle.mesh.specs.declared.Place.{Place}
use Rattle.mesh.specs.Nodes.{is_bad, how_many}
use Rattle.mesh.specs.Maps.{bad_length, bad_byte, misplaced_at, misplaced}
use Rattle.mesh.proofs.Bools.{true-false}
use Rattle.mesh.proofs.Index.{index-row, index-column, index-within}
use Rattle.mesh.proofs.NoFaults.{no-faults-bytes, no-faults-placed}
use Rattle.mesh.proofs.Some.{none-set}
use Rattle.mesh.proofs.Counts.{how_many-other, how_many-set}
use Rattle.mesh.proofs.Maps.{allowed-told}
use Rattle.theory_draw.specs.Draws.{index_of, fault_map, same_place, is_among, distinct}
use Rattle.theory_draw.specs.Claims.{Allowed, Passes}
use Rattle.theory_draw.proofs.Draws.{AllAllowed, none, more}

module _ (columns rows : ℕ) where
  pub faults-length : (ps : List Place) → length (fault_map columns rows ps) ≡ columns * rows
  unfolding fault_map
  faults-length [] = length-replicate (columns * rows) 0
  faults-length (p ∷ ps) = simp length-set (faults-length ps)

  -- an allowed place is on the mesh, and its index tells it
  module _ (p : Place) (a : Allowed columns rows p) where
    on_row : p.column.0 < columns
    on_row = let i = allowed-told columns rows p.row.0 p.column.0 a in omega arith

    pub index_on : index_of columns p < columns * rows
    unfolding index_of
    index_on =
        let i = allowed-told columns rows p.row.0 p.column.0 a in
        index-within columns p.row.0 p.column.0 on_row rows (omega arith)

    row_of : index_of columns p / columns ≡ p.row.0
    unfolding index_of
    row_of = index-row columns p.row.0 p.column.0 on_row

    column-of : index_of columns p % columns ≡ p.column.0
    unfolding index_of
    column-of = index-column columns p.row.0 p.column.0 on_row

    well-placed : misplaced_at columns rows (index_of columns p) 1 ≡ false
    unfolding misplaced_at is_bad
    well-placed = rw (row_of, column-of, a)

  -- Refusals 3 to 5

  small : (ps : List Place) → bad_byte (fault_map columns rows ps) ≡ false
  unfolding fault_map bad_byte
  small [] = no-faults-bytes columns rows
  small (p ∷ ps) = none-set (λ i x. ltb 1 x) 0 (fault_map columns rows ps) (index_of columns p) 1 refl (small ps)

  placed : (ps : List Place) → AllAllowed columns rows ps → misplaced columns rows (fault_map columns rows ps) ≡ false
  unfolding fault_map misplaced
  placed [] none = no-faults-placed columns rows
  placed (p ∷ ps) (more a bs) =
      none-set (misplaced_at columns rows) 0 (fault_map columns rows ps) (index_of columns p) 1 (rw (zero-add (index_of columns p)) (well-placed p a))
      (placed ps bs)

  pub faults-pass : (ps : List Place) → AllAllowed columns rows ps → Passes columns rows (fault_map columns rows ps)
  unfolding bad_length
  faults-pass ps bs =
      record { good_length = rw (eq-eqb _ _ (faults-length ps)); good-bytes = small ps; placed = placed ps bs }

  -- The number of faulty nodes

  same_index : (p q : Place) → same_place p q ≡ true → index_of columns p ≡ index_of columns q
  unfolding same_place index_of
  same_index p q e =
      let (r, c) = and_parts _ _ e in
      rw (eqb-true p.row.0 q.row.0 r, eqb-true p.column.0 q.column.0 c)

  index_same : (p q : Place) → Allowed columns rows p → Allowed columns rows q → index_of columns p ≡ index_of columns q → same_place p q ≡ true
  unfolding same_place
  index_same p q a b e =
      let row = sym (row_of p a) ∙ ap (λ (x : ℕ). x / columns) e ∙ row_of q b in
      let column = sym (column-of p a) ∙ ap (λ (x : ℕ). x % columns) e ∙ column-of q b in
      and_from _ _ (eq-eqb _ _ row) (eq-eqb _ _ column)

  -- the map tells whether an allowed place is among the faults
  pub byte_at : (p : Place) → Allowed columns rows p → (ps : List Place) → AllAllowed columns rows ps →
      get_or (fault_map columns rows ps) (index_of columns p) 0 ≡ cond (is_among p ps) 1 0
  unfolding fault_map is_among
  byte_at p a [] none = get_or-replicate (columns * rows) (index_of columns p) 0 0 (index_on p a)
  byte_at p a (q ∷ qs) (more b bs) =
      elim (cases_Bool (same_place p q)) [
        | inl e ↦
            rw (e, same_index p q e)
            (get_or-set_same (fault_map columns rows qs) (index_of columns q) 1 0 (rw (faults-length qs) (index_on q b)))
        | inr e ↦
            rw e
            (get_or-set_other (fault_map columns rows qs) (index_of columns q) (index_of columns p) 1 0 (λ s. true-false (index_same p q a b s) e)
            ∙ byte_at p a qs bs)
      ]

  -- one fault more is one faulty node more, unless it is among them
  added : (b : Bool) {before after n : ℕ} → after + cond (eqb (cond b 1 0) 1) 1 0 ≡ before + 1 → n ≡ before → cond b 0 1 + n ≡ after
  added true e h = omega arith
  added false e h = omega arith

  pub distinct-faulty : (ps : List Place) → AllAllowed columns rows ps → distinct ps ≡ how_many 1 (fault_map columns rows ps)
  unfolding distinct fault_map
  distinct-faulty [] none = sym (how_many-other 1 0 (columns * rows) refl)
  distinct-faulty (p ∷ ps) (more a bs) =
      let counted = how_many-set 1 (fault_map columns rows ps) (index_of columns p) 1 (rw (faults-length ps) (index_on p a)) in
      added (is_among p ps) (rw (byte_at p a ps bs) at counted) (distinct-faulty ps bs)

pub distinct-few : (ps : List Place) → distinct ps ≤ length ps
unfolding distinct
distinct-few [] = omega arith
distinct-few (p ∷ ps) =
    let before = distinct-few ps in
    elim (cases_Bool (is_among p ps)) [ inl e ↦ rw e (omega arith) | inr e ↦ rw e (omega arith) ]
