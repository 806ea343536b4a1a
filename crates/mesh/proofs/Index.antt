-- A place's index in a map, row by row, and the place of an index. Assumes nothing.
use Rattle.std.proofs.Common.{◌≡◌, refl, ◌∙◌, ℕ, zero, suc, ◌+◌, ◌*◌, ◌/◌, ◌%◌, ◌≤◌, ◌<◌, add-zero, mul_comm, mul-le-mul_left, mul-le-mul_right, mod-eq_of_lt, mod-lt, div-lt_iff_lt-mul, div-add-mod', arith}
use Rattle.std.proofs.Math.Nat.{mul-add-div_right, div-eq_of_lt, mul-add-mod_self_right}

module _ (columns r c : ℕ) (h : c < columns) where
  pub index-row : (r * columns + c) / columns ≡ r
  index-row = rw (mul-add-div_right {m = columns} (omega arith) r c, div-eq_of_lt h, add-zero)

  pub index-column : (r * columns + c) % columns ≡ c
  index-column = mul-add-mod_self_right r columns c ∙ mod-eq_of_lt h

  pub index-within : (rows : ℕ) → r < rows → r * columns + c < columns * rows
  index-within rows k =
      let p : suc r * columns ≤ rows * columns = mul-le-mul_right columns k in
      omega arith

-- the place of an index of the map
pub record PlaceOf (columns rows i : ℕ) : Type 0 where
  pub some : 0 < columns
  pub row : i / columns < rows
  pub column : i % columns < columns
  pub index : i / columns * columns + i % columns ≡ i

pub place_of : (columns rows i : ℕ) → i < columns * rows → PlaceOf columns rows i
place_of columns rows i h = go columns refl h
  where
    go : (k : ℕ) → columns ≡ k → i < k * rows → PlaceOf columns rows i
    go zero e q = absurd (omega arith)
    go (suc k) e q =
        let p : 0 < columns = omega arith in
        record {
          some = p;
          row = (div-lt_iff_lt-mul {k = columns} {x = i} {y = rows} p).1 (rw mul_comm at h);
          column = mod-lt i p;
          index = div-add-mod' i columns;
        }

pub same_index : (n i j : ℕ) → i / n ≡ j / n → i % n ≡ j % n → i ≡ j
same_index n i j p q = cc (div-add-mod' i n, div-add-mod' j n)

-- a mesh has at most 4096 nodes
pub few-nodes : (columns rows : ℕ) → columns ≤ 64 → rows ≤ 64 → columns * rows ≤ 4096
few-nodes columns rows p q = let j : columns * rows ≤ columns * 64 = mul-le-mul_left columns q in omega arith
