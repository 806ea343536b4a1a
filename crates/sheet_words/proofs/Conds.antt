-- What a test that gave something, or nothing, says. Assumes nothing.
use Rattle.std.proofs.Common.{◌≡◌, Bool, true, false, cond, Option, None, Some, refl, arith}
use Rattle.std.proofs.lemmas.Grind.{common_steps}

module _ {A : Type 0} where
  pub none-cond : (b : Bool) (x : A) → cond {A = Option A} b (Some x) None ≡ None → b ≡ false
  none-cond true x e = grind (arith, common_steps)
  none-cond false x e = refl

  pub some-cond : (b : Bool) (x y : A) → cond {A = Option A} b (Some x) None ≡ Some y → (b ≡ true) × (x ≡ y)
  some-cond true x y e = grind (arith, common_steps)
  some-cond false x y e = grind (arith, common_steps)
