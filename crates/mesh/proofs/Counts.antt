-- Laws of `how_many`. Assumes nothing.
use Rattle.std.proofs.Common.{◌≡◌, refl, inl, inr, false, cond, List, [], ◌∷◌, ℕ, zero, suc, ◌+◌, ◌≤◌, ◌<◌, arith, eqb, length, get_or, set, replicate}
use Rattle.std.proofs.lemmas.Bool.{cases_Bool}
use Rattle.mesh.specs.Nodes.{how_many}

module _ (n : ℕ) where
  pub how_many-le : (xs : List ℕ) → how_many n xs ≤ length xs
  unfolding how_many
  how_many-le [] = omega arith
  how_many-le (x ∷ xs) =
      elim (cases_Bool (eqb x n)) [ inl e ↦ rw e (omega (arith, how_many-le xs)) | inr e ↦ rw e (omega (arith, how_many-le xs)) ]

  -- where every number is another
  pub how_many-other : (x k : ℕ) → eqb x n ≡ false → how_many n (replicate k x) ≡ 0
  unfolding how_many
  how_many-other x zero e = refl
  how_many-other x (suc k) e = rw (e, how_many-other x k e)

  -- where one number is set: what was there counts no more, what is there now does
  pub how_many-set : (xs : List ℕ) (k y : ℕ) → k < length xs →
      how_many n (set xs k y) + cond (eqb (get_or xs k 0) n) 1 0 ≡ how_many n xs + cond (eqb y n) 1 0
  unfolding how_many
  how_many-set [] k y h = absurd (omega arith)
  how_many-set (x ∷ xs) zero y h = omega arith
  how_many-set (x ∷ xs) (suc k) y h = omega (arith, how_many-set xs k y (omega arith))
