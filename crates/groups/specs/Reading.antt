-- Reading a number from an index of a file on: ys are the bytes of the file. Assumes nothing.
use Rattle.std.specs.Prelude.{◌≡◌, List, ℕ, drop, Result, Ok, Err}
use Rattle.theory_legs.specs.Groups.{Found, fault, found, above, read_groups, not_large, read_number}
use Rattle.theory_legs.specs.Converting.{leg_refusal_number}
use Rattle.theory_legs.specs.declared.LegRefusal.{LegRefusal}

-- what is read, or why nothing is: the index after a number tells the bytes after it
unfoldable pub number_told : List ℕ → Result (ℕ × ℕ) LegRefusal → Found ℕ
number_told ys (Ok x) = found x.0 (drop x.1 ys)
number_told ys (Err why) = fault (leg_refusal_number why)

unfoldable pub groups_from : ℕ → List ℕ → ℕ → Found ℕ
groups_from k ys at = read_groups k (drop at ys)

unfoldable pub number_from : List ℕ → ℕ → Found ℕ
number_from ys at = read_number (drop at ys)

-- x is a group g before more of them
pub record Joined (g : ℕ) (more : ℕ × ℕ) (x : Result (ℕ × ℕ) LegRefusal) : Type 0 where
  pub joined : (ys : List ℕ) → number_told ys x ≡ above g more.0 (drop more.1 ys)

-- x is a number that is not too large
pub record Bounded (number : ℕ × ℕ) (x : Result (ℕ × ℕ) LegRefusal) : Type 0 where
  pub bounded : (ys : List ℕ) → number_told ys x ≡ not_large number.0 (drop number.1 ys)
