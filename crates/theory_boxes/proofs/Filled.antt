-- Numbers at the front of a list, then zeros up to a length, then what was there. Assumes nothing.
use Rattle.std.proofs.Common.{◌≡◌, sym, ap, ◌∙◌, List, ◌++◌, ℕ, ◌+◌, ◌-◌, ◌≤◌, ◌<◌, arith, length, get_or, drop, replicate, length-append, length-drop, ext_get_or, get_or-append-add, get_or-drop}
use Rattle.std.proofs.Math.Decide.{dec_lt}
use Rattle.std.proofs.lemmas.List.{length-replicate, get_or-replicate}
use Rattle.std.proofs.Math.ListN.{get_or-append}

get_d_past : (xs ys : List ℕ) (j : ℕ) → length xs ≤ j → get_or (xs ++ ys) j 0 ≡ get_or ys (j - length xs) 0
get_d_past xs ys j h =
    let e : length xs + (j - length xs) ≡ j = omega arith in
    ap (λ i. get_or (xs ++ ys) i 0) (sym e) ∙ get_or-append-add xs ys (j - length xs) 0

abbrev zeros : ℕ → List ℕ
zeros k = replicate k 0

-- the numbers xs, zeros up to index n, and from there on the list old
abbrev pub filled : List ℕ → ℕ → List ℕ → List ℕ
filled xs n old = xs ++ (zeros (n - length xs) ++ drop n old)

module _ (xs : List ℕ) (n : ℕ) (old : List ℕ) (fits : length xs ≤ n) where
  zeros-length : length (zeros (n - length xs)) ≡ n - length xs
  zeros-length = length-replicate (n - length xs) 0

  pub filled-length : n ≤ length old → length (filled xs n old) ≡ length old
  filled-length h = simp (length-append, length-replicate, length-drop) (omega arith)

  pub filled_zero : (j : ℕ) → length xs ≤ j → j < n → get_or (filled xs n old) j 0 ≡ 0
  filled_zero j p q =
      get_d_past xs _ j p ∙
      get_or-append (zeros (n - length xs)) _ 0 (j - length xs) (omega (arith, zeros-length)) ∙
      get_or-replicate (n - length xs) (j - length xs) 0 0 (omega arith)

  pub filled-rest : (j : ℕ) → n ≤ j → get_or (filled xs n old) j 0 ≡ get_or old j 0
  filled-rest j p =
      let e : n + (j - length xs - length (zeros (n - length xs))) ≡ j = omega (arith, zeros-length) in
      get_d_past xs _ j (omega arith) ∙ get_d_past (zeros (n - length xs)) _ (j - length xs) (omega (arith, zeros-length)) ∙ get_or-drop n old _ 0 ∙ rw e

  -- a list is that one if its numbers are
  pub filled_is : {ys : List ℕ} → n ≤ length old → length ys ≡ length old → ((j : ℕ) → j < length xs → get_or ys j 0 ≡ get_or xs j 0) →
      ((j : ℕ) → length xs ≤ j → j < n → get_or ys j 0 ≡ 0) → ((j : ℕ) → n ≤ j → get_or ys j 0 ≡ get_or old j 0) → ys ≡ filled xs n old
  filled_is {ys} h size front zero rest =
      ext_get_or 0 ys (filled xs n old) (size ∙ sym (filled-length h))
      (λ j l.
      elim (dec_lt j (length xs)) [
        | yes p ↦ front j p ∙ sym (get_or-append xs _ 0 j p)
        | no p ↦
            elim (dec_lt j n) [
              | yes q ↦ zero j (omega arith) q ∙ sym (filled_zero j (omega arith) q)
              | no q ↦ rest j (omega arith) ∙ sym (filled-rest j (omega arith))
            ]
      ])
