-- Refusal 24, as it is tested. Assumes nothing.
use Rattle.std.proofs.Common.{◌≡◌, inl, inr, true, false, not, ◌||◌, ◌&&◌, ℕ, ◌≤◌, ◌<◌, ltb, eqb, arith}
use Rattle.std.proofs.lemmas.Grind.{common_steps}
use native.Mathlib.Decide.{dec_lt}
use Rattle.mesh.proofs.Bools.{true-false, bool-ext}
use Rattle.theory_draw.specs.Drawing.{bad_draws}
use Rattle.theory_draw.specs.Claims.{Undrawable}
use Rattle.theory_draw.proofs.Theorems.{refusal-24}

module _ (columns rows draws : ℕ) where
  refused : Undrawable columns rows draws → bad_draws columns rows draws ≡ true
  refused = (refusal-24 columns rows draws).1

  -- where a draw is not refused there are places
  pub large : bad_draws columns rows draws ≡ false → 0 < draws → (5 ≤ columns) × (3 ≤ rows)
  large good h =
      elim (dec_lt columns 5) [
        | yes w ↦ true-false (refused (inr (h, inl w))) good
        | no w ↦ elim (dec_lt rows 3) [ yes l ↦ true-false (refused (inr (h, inr l))) good | no l ↦ (omega arith, omega arith) ]
      ]

  told : Undrawable columns rows draws → (not (eqb draws 0) && (ltb 1000 draws || ltb columns 5 || ltb rows 3)) ≡ true
  told (inl h) = grind (arith, common_steps)
  told (inr (h, inl w)) = grind (arith, common_steps)
  told (inr (h, inr l)) = grind (arith, common_steps)

  untold : (not (eqb draws 0) && (ltb 1000 draws || ltb columns 5 || ltb rows 3)) ≡ true → Undrawable columns rows draws
  untold t = grind (arith, common_steps)

  pub bad_draws_tested : bad_draws columns rows draws ≡ (not (eqb draws 0) && (ltb 1000 draws || ltb columns 5 || ltb rows 3))
  bad_draws_tested = bool-ext _ _ (λ t. told ((refusal-24 columns rows draws).0 t)) (λ t. refused (untold t))
