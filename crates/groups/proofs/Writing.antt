-- The groups of a number, written one after another. Assumes nothing.
use mathlib.Core.List.{List, [], ◌∷◌}
use Prim.Native.Nat.{ℕ, ◌+◌, ◌/◌, ◌%◌, ◌≤◌, ◌<◌}
use Rattle.buffers.specs.Over.{Puts}
use Rattle.buffers.proofs.Over.{puts-append}
use Rattle.theory_legs.specs.Groups.{number_bytes}
use Rattle.theory_legs.proofs.Groups.{number-one, number-two, number-three}

module _ (n : ℕ) {out : List ℕ} {at x : ℕ} {mid : List ℕ} where
  pub puts_one : n < 128 → Puts out at (n ∷ []) x mid → Puts out at (number_bytes n) x mid
  puts_one h p = rw (number-one n h) p

  module _ {x₁ : ℕ} {out₁ : List ℕ} where
    pub puts-two : 128 ≤ n → n < 16384 → Puts out at ((128 + n % 128) ∷ []) x mid → Puts mid x (n / 128 ∷ []) x₁ out₁ →
        Puts out at (number_bytes n) x₁ out₁
    puts-two l h p q = rw (number-two n l h) (puts-append p q)

    pub puts-three : {x₂ : ℕ} {out₂ : List ℕ} → 16384 ≤ n → n ≤ 65535 → Puts out at ((128 + n % 128) ∷ []) x mid →
        Puts mid x ((128 + n / 128 % 128) ∷ []) x₁ out₁ → Puts out₁ x₁ (n / 128 / 128 ∷ []) x₂ out₂ → Puts out at (number_bytes n) x₂ out₂
    puts-three l h p q r = rw (number-three n l h) (puts-append p (puts-append q r))
