-- What is written piece by piece is the whole line; and how long it is at most. Assumes nothing.
use mathlib.Core.Path.{◌≡◌}
use mathlib.Core.List.{List, [], ◌∷◌}
use Prim.Native.Nat.{ℕ, ◌+◌, ◌/◌, ◌%◌, ◌≤◌, ◌<◌}
use native.Mathlib.Omega.{arith}
use lib.ListN.{length, length-append}
use Rattle.buffers.specs.Over.{Puts}
use Rattle.buffers.proofs.Over.{puts-nothing, puts-append}
use Rattle.sheet_prints.specs.Prints.{decimal, line, spaced_letters, ok_word, ok_line}
use Rattle.sheet_prints.proofs.Decimal.{decimal-one, decimal-more, decimal-few, decimal-length}

pub line-length : (word : List ℕ) (n : ℕ) → n < 100000 → length (line word n) ≤ length word + 6
unfolding line
line-length word n h = simp length-append (omega (arith, decimal-length n h))

pub letters-length : (letters : List ℕ) → length (spaced_letters letters) ≤ length letters + 1
unfolding spaced_letters
letters-length [] = omega arith
letters-length (x ∷ xs) = omega arith

module _ {out : List ℕ} {at x : ℕ} {mid : List ℕ} where
  pub puts-digit : (n : ℕ) → n < 10 → Puts out at ((48 + n % 10) ∷ []) x mid → Puts out at (decimal n) x mid
  puts-digit n h p =
      let e : n % 10 ≡ n = omega arith in
      rw (decimal-one n h) (rw e at p)

  -- the last digit has its place
  pub tenth-fits : (n : ℕ) → n < 100000 → Puts out at (decimal (n / 10)) x mid → x < at + 5
  tenth-fits n h p = omega (arith, p.next, decimal-few 3 (n / 10) (omega arith))

  pub puts-number : (n : ℕ) {x' : ℕ} {after : List ℕ} → 10 ≤ n →
      Puts out at (decimal (n / 10)) x mid → Puts mid x ((48 + n % 10) ∷ []) x' after →
      Puts out at (decimal n) x' after
  puts-number n h p q = rw (decimal-more n h) (puts-append p q)

  pub puts-line : (word : List ℕ) (n : ℕ) {x₁ x₂ : ℕ} {out₁ out₂ : List ℕ} →
      Puts out at word x mid → Puts mid x (decimal n) x₁ out₁ → Puts out₁ x₁ (10 ∷ []) x₂ out₂ →
      Puts out at (line word n) x₂ out₂
  unfolding line
  puts-line word n p q r = puts-append p (puts-append q r)

  pub puts-letters : (letters : List ℕ) {x₁ : ℕ} {out₁ : List ℕ} →
      0 < length letters → Puts out at (32 ∷ []) x mid → Puts mid x letters x₁ out₁ →
      Puts out at (spaced_letters letters) x₁ out₁
  unfolding spaced_letters
  puts-letters [] h p q = absurd (omega arith)
  puts-letters (l ∷ ls) h p q = puts-append p q

  pub puts-ok : (letters : List ℕ) {x₁ x₂ x₃ : ℕ} {out₁ out₂ out₃ : List ℕ} →
      Puts out at ok_word x mid → Puts mid x (decimal (length letters)) x₁ out₁ → Puts out₁ x₁ (spaced_letters letters) x₂ out₂ →
      Puts out₂ x₂ (10 ∷ []) x₃ out₃ →
      Puts out at (ok_line letters) x₃ out₃
  unfolding ok_line
  puts-ok letters p q r s = puts-append p (puts-append q (puts-append r s))

pub puts-no-letters : (out : List ℕ) (at : ℕ) (letters : List ℕ) → at ≤ length out → length letters ≡ 0 → Puts out at (spaced_letters letters) at out
unfolding spaced_letters
puts-no-letters out at [] h e = puts-nothing out at h
puts-no-letters out at (l ∷ ls) h e = absurd (omega arith)
