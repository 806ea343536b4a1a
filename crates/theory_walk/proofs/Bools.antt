-- Bools as numbers, and a proof by contradiction. Assumes nothing.
use Rattle.std.proofs.Common.{◌≡◌, refl, Bool, true, false, not, ℕ, ◌+◌, ◌≤◌, arith}
use Rattle.std.proofs.Math.Decide.{dec_le}

abbrev pub bit : Bool → ℕ
bit true = 1
bit false = 0

pub bit_le : (b : Bool) → bit b ≤ 1
bit_le true = omega arith
bit_le false = omega arith

pub bits-of-both : (b : Bool) → bit b + bit (not b) ≡ 1
bits-of-both true = refl
bits-of-both false = refl

pub bit-zero : (b : Bool) → bit (not b) ≡ 0 → b ≡ true
bit-zero true e = refl
bit-zero false e = absurd (omega arith)

pub bit-one : (b : Bool) → bit (not b) ≡ 1 → b ≡ false
bit-one true e = absurd (omega arith)
bit-one false e = refl

pub le-by-contradiction : {a b : ℕ} → ((a ≤ b → ⊥) → ⊥) → a ≤ b
le-by-contradiction {a} {b} f = decided (dec_le a b)
  where
    decided : Dec (a ≤ b) → a ≤ b
    decided (yes h) = h
    decided (no h) = absurd (f h)
