-- Counted row by row: how many places of a grid pass a test of their row and one of their column. Assumes nothing.
use Rattle.std.proofs.Common.{◌≡◌, ◌∙◌, Bool, true, false, cond, ◌&&◌, ℕ, zero, suc, ◌+◌, ◌-◌, ◌*◌, ◌/◌, ◌%◌, ◌≤◌, ◌<◌, min, add-zero, add-suc, zero-mul, arith, le-leb, lt-ltb, le-ltb, leb, ltb}
use Rattle.std.proofs.Math.Decide.{dec_lt}
use Rattle.std.proofs.lemmas.Bool.{lt-leb}
use Rattle.mesh.proofs.Index.{index-row, index-column}
use Rattle.theory_draw.proofs.Counting.{count_below}

-- all numbers but the first a and the last b of n
abbrev pub between : ℕ → ℕ → ℕ → ℕ → Bool
between a b n x = leb a x && ltb (x + b) n

pub count-between : (a b n m : ℕ) → count_below (between a b n) m ≡ min m (n - b) - a
unfolding count_below
count-between a b n zero = omega arith
count-between a b n (suc m) =
    let before = count-between a b n m in
    elim (dec_lt m a) [
      | yes h ↦ rw (lt-leb a m h) (omega arith)
      | no h ↦
          elim (dec_lt (m + b) n) [
            | yes k ↦ rw (le-leb a m (omega arith), lt-ltb (m + b) n k) (omega arith)
            | no k ↦ rw (le-leb a m (omega arith), le-ltb (m + b) n (omega arith)) (omega arith)
          ]
    ]

module _ (p q : ℕ → Bool) (columns : ℕ) where
  -- the place of index i passes both
  abbrev pub both : ℕ → Bool
  both i = p (i / columns) && q (i % columns)

  at_place : (r c : ℕ) → c < columns → both (r * columns + c) ≡ p r && q c
  at_place r c h = rw (index-row columns r c h, index-column columns r c h)

  -- of a row as many as its columns, if the row passes
  row-part : (r c : ℕ) → c ≤ columns → count_below both (r * columns + c) ≡ count_below both (r * columns) + cond (p r) (count_below q c) 0
  unfolding count_below
  row-part r zero h = rw add-zero (none (p r))
    where
      none : (a : Bool) {n : ℕ} → n ≡ n + cond a 0 0
      none true = omega arith
      none false = omega arith
  row-part r (suc c) h =
      rw (add-suc, at_place r c h)
      (one_more (p r) (q c) (count_below both (r * columns)) (count_below q c) (row-part r c (omega arith)))
    where
      one_more : (a b : Bool) (m k : ℕ) {n : ℕ} → n ≡ m + cond a k 0 → cond (a && b) (suc n) n ≡ m + cond a (cond b (suc k) k) 0
      one_more true true m k e = omega arith
      one_more true false m k e = e
      one_more false b m k e = e

  -- whole rows
  pub whole-rows : (r : ℕ) → count_below both (r * columns) ≡ count_below p r * count_below q columns
  unfolding count_below
  whole-rows zero = rw (zero-mul columns, zero-mul (count_below q columns))
  whole-rows (suc r) =
      let next : r * columns + columns ≡ suc r * columns = omega arith in
      rw (← next) (row-part r columns (omega arith) ∙ one_more (p r) (count_below p r) (count_below q columns) (whole-rows r))
    where
      one_more : (a : Bool) (m k : ℕ) {n : ℕ} → n ≡ m * k → n + cond a k 0 ≡ cond a (suc m) m * k
      one_more true m k e = omega arith
      one_more false m k e = omega arith

  -- and a part of the next
  pub count-grid : (r c : ℕ) → c ≤ columns →
      count_below both (r * columns + c) ≡ count_below p r * count_below q columns + cond (p r) (count_below q c) 0
  count-grid r c h = row-part r c h ∙ rw (whole-rows r)
