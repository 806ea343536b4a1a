-- Faults counted one by one. Assumes nothing.
use Rattle.std.proofs.Common.{◌≡◌, List, [], ◌∷◌, ◌==◌, ℕ, refl, ◌∙◌, Bool, true, false, cond}
use Rattle.std.specs.List.{sum_by}
use Rattle.std.specs.Int.{from_bool}
use Rattle.std.proofs.lemmas.List.Sums.{sum_by-cons}
use Rattle.mesh.specs.Nodes.{how_many}

one-or-none : (b : Bool) → from_bool b ≡ cond b 1 0
one-or-none true = refl
one-or-none false = refl

pub faults-counted : (map : List ℕ) → sum_by (λ x. from_bool (x == 1)) map ≡ how_many 1 map
unfolding how_many
faults-counted [] = refl
faults-counted (x ∷ xs) =
    sum_by-cons (λ x. from_bool (x == 1)) x xs ∙ rw (faults-counted xs, one-or-none (x == 1))
