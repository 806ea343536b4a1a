-- The numbering is one to one between the numbers below the number of places and the allowed places, and in map order. Assumes nothing.
use Rattle.std.proofs.Common.{◌≡◌, sym, ap, ◌∙◌, ◌⊎◌, inl, inr, ◌↔◌, ℕ, ◌+◌, ◌-◌, ◌*◌, ◌/◌, ◌%◌, ◌≤◌, ◌<◌, zero-mul, mul-zero, mul_comm, mul-pos, div-add-mod', arith}
use Rattle.std.proofs.Math.Decide.{dec_lt}
use Rattle.mesh.specs.declared.Place.{Place}
use Rattle.mesh.proofs.Index.{index-within}
use Rattle.mesh.proofs.Maps.{allowed-told, allowed-true}
use Rattle.theory_draw.specs.Draws.{allowed_at, place_count, place_numbered, index_of}
use Rattle.theory_draw.specs.Claims.{Allowed, OneNumber}
use Rattle.theory_draw.proofs.Counting.{count-mono}
use Rattle.theory_draw.proofs.Numbering.{count, place-count, number_of, number-place, place-inner, place-of-number}

module _ (columns rows : ℕ) where
  few : (k : ℕ) → k < place_count columns rows → k < (rows - 2) * (columns - 4)
  few k h = rw (place-count columns rows) at h

  small-none : (columns < 5) ⊎ (rows < 3) → place_count columns rows ≡ 0
  small-none (inl h) =
      let none : columns - 4 ≡ 0 = omega arith in
      place-count columns rows ∙ rw (none, mul-zero (rows - 2))
  small-none (inr h) =
      let none : rows - 2 ≡ 0 = omega arith in
      place-count columns rows ∙ rw (none, zero-mul (columns - 4))

  pub some-place : 5 ≤ columns → 3 ≤ rows → 0 < place_count columns rows
  some-place w h =
      rw (place-count columns rows) (mul-pos {m = rows - 2} {n = columns - 4} (omega arith) (omega arith))

  pub no_place : place_count columns rows ≡ 0 ↔ (columns < 5) ⊎ (rows < 3)
  no_place = (
    λ e.
        elim (dec_lt columns 5) [
          | yes w ↦ inl w
          | no w ↦ elim (dec_lt rows 3) [ yes h ↦ inr h | no h ↦ absurd (omega (arith, some-place (omega arith) (omega arith))) ]
        ],
    small-none,
  )

  pub numbered-allowed : (k : ℕ) → k < place_count columns rows → Allowed columns rows (place_numbered columns rows k)
  numbered-allowed k h =
      rw (place-of-number columns rows k (few k h)) (allowed-true columns rows _ _ (place-inner columns rows k (few k h)))

  pub one_number : (p : Place) → Allowed columns rows p → OneNumber columns rows p
  one_number p e =
      let i = allowed-told columns rows p.row.0 p.column.0 e in
      let r = p.row.0 in
      let c = p.column.0 in
      let low = index-within (columns - 4) (r - 1) (c - 2) (omega arith) (rows - 2) (omega arith) in
      record {
        number = (r - 1) * (columns - 4) + (c - 2);
        low = rw (place-count columns rows, mul_comm (rows - 2) (columns - 4)) low;
        is = number-place columns rows r c i;
        only =
            λ k h q.
            let there = sym (place-of-number columns rows k (few k h)) ∙ q in
            let row : k / (columns - 4) + 1 ≡ r = ap (λ (x : Place). x.row.0) there in
            let column : k % (columns - 4) + 2 ≡ c = ap (λ (x : Place). x.column.0) there in
            let a : k / (columns - 4) ≡ r - 1 = omega arith in
            let b : k % (columns - 4) ≡ c - 2 = omega arith in
            sym (div-add-mod' k (columns - 4)) ∙ rw (a, b);
      }

  -- as many places are allowed before a numbered one as its number says
  number_counts : (k : ℕ) → k < place_count columns rows → count columns rows (index_of columns (place_numbered columns rows k)) ≡ k
  unfolding index_of
  number_counts k h =
      let low = few k h in
      let row : k / (columns - 4) + 1 - 1 ≡ k / (columns - 4) = omega arith in
      let column : k % (columns - 4) + 2 - 2 ≡ k % (columns - 4) = omega arith in
      rw (place-of-number columns rows k low)
      (number_of columns rows _ _ (place-inner columns rows k low) ∙ rw (row, column) (div-add-mod' k (columns - 4)))

  pub numbered-in-order : (j k : ℕ) → j < k → k < place_count columns rows →
      index_of columns (place_numbered columns rows j) < index_of columns (place_numbered columns rows k)
  numbered-in-order j k h low =
      let a = index_of columns (place_numbered columns rows j) in
      let b = index_of columns (place_numbered columns rows k) in
      elim (dec_lt a b) [
        | yes q ↦ q
        | no q ↦
            let up = count-mono (allowed_at columns rows) b a (omega arith) in
            absurd (omega (arith, up, number_counts j (omega arith), number_counts k low))
      ]
