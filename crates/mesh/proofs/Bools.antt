-- Laws of Bools that the library lacks, and three of its own under shorter names. Assumes nothing.
use Rattle.std.proofs.Common.{◌≡◌, refl, sym, Bool, true, false, ◌&&◌, ℕ, arith}
use Rattle.std.proofs.lemmas.Bool.{and_parts}
pub use Rattle.std.proofs.lemmas.Bool.{cases_Bool as value, or_parts as or-none}

pub true-false {ℓ} : {A : Type ℓ} {b : Bool} → b ≡ true → b ≡ false → A
true-false p q = let z : ◌≡◌ {A = ℕ} 0 1 = cc in absurd (omega arith)

pub and_both : {a b : Bool} → a && b ≡ true → (a ≡ true) × (b ≡ true)
and_both {a} {b} = and_parts a b

pub and_right : (a b : Bool) → a ≡ true → a && b ≡ false → b ≡ false
and_right true b e f = f
and_right false b e f = true-false e refl

-- equal if each follows from the other
pub bool-ext : (a b : Bool) → (a ≡ true → b ≡ true) → (b ≡ true → a ≡ true) → a ≡ b
bool-ext true b f g = sym (f refl)
bool-ext false true f g = g refl
bool-ext false false f g = refl
