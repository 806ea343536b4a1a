-- What the code says of its parts: xs are the letters. Assumes nothing.
use Rattle.std.specs.Prelude.{◌≡◌, false, List, ℕ, ◌+◌, ◌≤◌, length}
use Rattle.mesh.specs.declared.Heading.{Heading}
use Rattle.theory_legs.specs.Groups.{number_bytes}
use Rattle.theory_legs.specs.Legs.{leg}
use Rattle.theory_legs.specs.Files.{leg_number, leg_bytes}
use Rattle.theory_legs.specs.Converting.{some_other, legs_of, some_long, too_long, file_of}
use Rattle.to_legs.specs.declared.Measured.{Measured}

-- the bytes of a leg of length n, whatever its direction; not more than it has letters
pub record LegSize (n x : ℕ) : Type 0 where
  pub bytes : (h : Heading) → length (number_bytes (leg_number (leg h n))) ≡ x
  pub shorter : x ≤ n

-- what is measured of their legs, which are not too long
pub record Measures (xs : List ℕ) (x : Measured) : Type 0 where
  pub fits : too_long (legs_of xs) ≡ false
  pub counts : length (legs_of xs) ≡ x.legs
  pub sizes : length (leg_bytes (legs_of xs)) ≡ x.bytes

-- all are letters, no leg is over 16,384, and there is room for the legs from index first on
pub record LegsWritable (xs : List ℕ) (first : ℕ) (out : List ℕ) : Type 0 where
  pub no_other : some_other xs ≡ false
  pub short : some_long (legs_of xs) ≡ false
  pub room : first + length (leg_bytes (legs_of xs)) ≤ length out

-- all are letters, their legs are not too long, and there is room for the file
pub record FileWritable (xs : List ℕ) (count : ℕ) (out : List ℕ) : Type 0 where
  pub no_other : some_other xs ≡ false
  pub fits : too_long (legs_of xs) ≡ false
  pub counted : length (legs_of xs) ≡ count
  pub room : length (file_of xs) ≤ length out
