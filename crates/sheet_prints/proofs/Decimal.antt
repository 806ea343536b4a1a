-- A number's digits: those of its tenth, then the last. Assumes nothing.
use mathlib.Core.Path.{◌≡◌, refl, sym, ◌∙◌}
use mathlib.Core.List.{List, [], ◌∷◌, ◌++◌, append_assoc}
use Prim.Native.Nat.{ℕ, zero, suc, ◌+◌, ◌/◌, ◌%◌, ◌^◌, ◌≤◌, ◌<◌}
use native.Mathlib.Decide.{dec_lt}
use native.Mathlib.Nat.{pow-suc}
use native.Mathlib.Omega.{arith}
use borrow.Author.Tests.{lt-ltb, le-ltb}
use lib.ListN.{length, length-append}
use Rattle.sheet_prints.specs.Prints.{digits, decimal}

digits-one : (k n : ℕ) (rest : List ℕ) → n < 10 → digits (suc k) n rest ≡ (48 + n) ∷ rest
unfolding digits
digits-one k n rest h = rw (lt-ltb n 10 h)

digits_more : (k n : ℕ) (rest : List ℕ) → 10 ≤ n → digits (suc k) n rest ≡ digits k (n / 10) ((48 + n % 10) ∷ rest)
unfolding digits
digits_more k n rest h = rw (le-ltb n 10 h)

digits-rest : (k n : ℕ) (rest : List ℕ) → digits k n rest ≡ digits k n [] ++ rest
unfolding digits
digits-rest zero n rest = refl
digits-rest (suc k) n rest =
    let d = 48 + n % 10 in
    elim (dec_lt n 10) [
      | yes l ↦ rw (lt-ltb n 10 l)
      | no l ↦
          rw (le-ltb n 10 (omega arith), digits-rest k (n / 10) (d ∷ rest), digits-rest k (n / 10) (d ∷ []))
          (sym (append_assoc (digits k (n / 10) []) (d ∷ []) rest))
    ]

-- more fuel changes nothing
digits-fuel : (k m n : ℕ) (rest : List ℕ) → n < k → n < m → digits k n rest ≡ digits m n rest
digits-fuel zero m n rest h g = absurd (omega arith)
digits-fuel (suc k) zero n rest h g = absurd (omega arith)
digits-fuel (suc k) (suc m) n rest h g =
    elim (dec_lt n 10) [
      | yes l ↦ digits-one k n rest l ∙ sym (digits-one m n rest l)
      | no l ↦
          digits_more k n rest (omega arith) ∙ digits-fuel k m (n / 10) ((48 + n % 10) ∷ rest) (omega arith) (omega arith) ∙
          sym (digits_more m n rest (omega arith))
    ]

pub decimal-one : (n : ℕ) → n < 10 → decimal n ≡ (48 + n) ∷ []
unfolding decimal
decimal-one n h = digits-one n n [] h

pub decimal-more : (n : ℕ) → 10 ≤ n → decimal n ≡ decimal (n / 10) ++ ((48 + n % 10) ∷ [])
unfolding decimal
decimal-more n h =
    let d = 48 + n % 10 in
    digits_more n n [] h ∙ digits-fuel n (suc (n / 10)) (n / 10) (d ∷ []) (omega arith) (omega arith) ∙
    digits-rest (suc (n / 10)) (n / 10) (d ∷ [])

decimal-under : (n k : ℕ) → n < 10 → length (decimal n) ≤ suc k
decimal-under n k l = rw (decimal-one n l) (omega arith)

pub decimal-few : (k n : ℕ) → n < 10 ^ suc k → length (decimal n) ≤ suc k
decimal-few zero n h = decimal-under n 0 h
decimal-few (suc k) n h =
    elim (dec_lt n 10) [
      | yes l ↦ decimal-under n (suc k) l
      | no l ↦
          let tenth : n / 10 < 10 ^ suc k = omega (arith, pow-suc 10 (suc k)) in
          rw (decimal-more n (omega arith), length-append) (omega (arith, decimal-few k (n / 10) tenth))
    ]

pub decimal-length : (n : ℕ) → n < 100000 → length (decimal n) ≤ 5
decimal-length n h = decimal-few 4 n h
