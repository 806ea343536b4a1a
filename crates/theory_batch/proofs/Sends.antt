-- The sends of a list: as many as its length holds fours. Assumes nothing.
use Rattle.std.proofs.Common.{◌≡◌, refl, false, List, [], ◌∷◌, ℕ, ◌*◌, ◌/◌, ◌%◌, arith, eqb-true, length}
use Rattle.std.proofs.lemmas.Bool.{not-false}
use Rattle.theory_batch.specs.Sends.{sends_of, uneven}

pub sends-length : (xs : List ℕ) → length (sends_of xs) ≡ length xs / 4
unfolding sends_of
sends-length (r ∷ c ∷ R ∷ C ∷ xs) = let on = sends-length xs in omega arith
sends-length (r ∷ c ∷ R ∷ []) = refl
sends-length (r ∷ c ∷ []) = refl
sends-length (r ∷ []) = refl
sends-length [] = refl

pub even-whole : (xs : List ℕ) → uneven xs ≡ false → length xs ≡ 4 * (length xs / 4)
even-whole xs e = let m = eqb-true (length xs % 4) 0 (not-false _ e) in omega arith
