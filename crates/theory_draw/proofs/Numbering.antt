-- The numbers of the allowed places, worked out: rows - 2 rows of columns - 4 places each. Assumes nothing.
use Rattle.std.proofs.Common.{◌≡◌, sym, ◌∙◌, Bool, true, ℕ, zero, suc, ◌+◌, ◌-◌, ◌*◌, ◌/◌, ◌%◌, ◌<◌, zero-add, add-zero, mul-zero, mul_comm, mod-lt, div-lt_iff_lt-mul, div-add-mod', arith, le-leb, lt-ltb}
use Rattle.std.proofs.lemmas.Bool.{and_from}
use Rattle.mesh.specs.Mesh.{place}
use Rattle.mesh.specs.Maps.{allowed}
use Rattle.mesh.proofs.Index.{index-row, index-column, index-within}
use Rattle.mesh.proofs.Maps.{Inner, allowed-true}
use Rattle.theory_draw.specs.Draws.{allowed_at, places, place_count, place_numbered}
use Rattle.theory_draw.proofs.Counting.{count_below, select-length, select-at}
use Rattle.theory_draw.proofs.Grids.{between, count-between, whole-rows, count-grid}

module _ (columns rows : ℕ) where
  abbrev pub count : ℕ → ℕ
  count m = count_below (allowed_at columns rows) m

  -- allowed is a test of the row and one of the column
  abbrev in_rows : ℕ → Bool
  in_rows r = between 1 1 rows r

  abbrev in_columns : ℕ → Bool
  in_columns c = between 2 2 columns c

  -- in a row that passes there are so many
  in_row : count_below in_columns columns ≡ columns - 4
  in_row = count-between 2 2 columns columns ∙ omega arith

  -- the number of allowed places
  pub place-count : place_count columns rows ≡ (rows - 2) * (columns - 4)
  unfolding places count_below allowed_at allowed
  place-count =
      let all = select-length (allowed_at columns rows) (λ i. place (i / columns) (i % columns)) (columns * rows) 0 in
      let in_rows_lem : count_below in_rows rows ≡ rows - 2 = count-between 1 1 rows rows ∙ omega arith in
      let counted = rw (mul_comm rows columns, in_rows_lem, in_row) at (whole-rows in_rows in_columns columns rows) in
      sym (add-zero _) ∙ all ∙ rw (zero-add (columns * rows)) counted

  -- the number of an allowed place
  module _ (r c : ℕ) (p : Inner columns rows r c) where
    pub number_of : count (r * columns + c) ≡ (r - 1) * (columns - 4) + (c - 2)
    unfolding allowed_at allowed
    number_of =
        let passes : in_rows r ≡ true = and_from _ _ (le-leb 1 r p.south) (lt-ltb (r + 1) rows p.north) in
        let below : count_below in_rows r ≡ r - 1 = count-between 1 1 rows r ∙ omega arith in
        let before : count_below in_columns c ≡ c - 2 = count-between 2 2 columns c ∙ omega arith in
        count-grid in_rows in_columns columns r c (omega arith) ∙ rw (passes, below, before, in_row)

    allowed-here : allowed_at columns rows (r * columns + c) ≡ true
    unfolding allowed_at
    allowed-here =
        let on : c < columns = omega arith in
        rw (index-row columns r c on, index-column columns r c on) (allowed-true columns rows r c p)

    pub number-place : place_numbered columns rows ((r - 1) * (columns - 4) + (c - 2)) ≡ place r c
    unfolding place_numbered places count_below
    number-place =
        let on : c < columns = omega arith in
        let at = index-within columns r c on rows (omega arith) in
        select-at (allowed_at columns rows) (λ i. place (i / columns) (i % columns)) (columns * rows) 0 (r * columns + c)
        ((r - 1) * (columns - 4) + (c - 2)) (place 0 0) (omega arith) (omega arith)
        allowed-here (omega (arith, number_of))
        ∙ rw (index-row columns r c on, index-column columns r c on)

  -- the place of a number
  module _ (k : ℕ) (low : k < (rows - 2) * (columns - 4)) where
    wide : 0 < columns - 4
    wide = some-factor (rows - 2) (columns - 4) low
      where
        some-factor : (a b : ℕ) → k < a * b → 0 < b
        some-factor a zero h = absurd (omega (arith, mul-zero a))
        some-factor a (suc b) h = omega arith

    pub place-inner : Inner columns rows (k / (columns - 4) + 1) (k % (columns - 4) + 2)
    place-inner =
        let column = mod-lt k wide in
        let row = (div-lt_iff_lt-mul {k = columns - 4} {x = k} {y = rows - 2} wide).1 low in
        record { south = omega arith; north = omega arith; west = omega arith; east = omega arith }

    pub place-of-number : place_numbered columns rows k ≡ place (k / (columns - 4) + 1) (k % (columns - 4) + 2)
    place-of-number =
        let row : k / (columns - 4) + 1 - 1 ≡ k / (columns - 4) = omega arith in
        let column : k % (columns - 4) + 2 - 2 ≡ k % (columns - 4) = omega arith in
        rw (row, column, div-add-mod' k (columns - 4)) at (number-place _ _ place-inner)
