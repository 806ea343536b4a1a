-- What the code says of its parts: ys are the bytes of a file. Assumes nothing.
use Rattle.mesh.specs.declared.Heading.{Heading}
use Rattle.std.specs.Prelude.{◌≡◌, List, [], ℕ, ◌≤◌, length, drop, Option, Some, None, Result, Ok, Err}
use Rattle.mesh.specs.Headings.{letters, direction}
use Rattle.theory_legs.specs.Groups.{Found, fault, found}
use Rattle.theory_legs.specs.Legs.{Leg, hops}
use Rattle.theory_legs.specs.Files.{read_legs, read_file}
use Rattle.theory_legs.specs.Converting.{leg_refusal_number, legs_in}
use Rattle.theory_legs.specs.declared.LegRefusal.{LegRefusal}
use Rattle.groups.specs.Reading.{number_told}
use Rattle.to_letters.specs.declared.Counted.{Counted}

-- the direction of a code, if there is one
unfoldable pub last_coded : Option ℕ → Option Heading
last_coded None = None
last_coded (Some k) = Some (direction k)

-- a number of legs from index at of a file on, after one in that direction
unfoldable pub legs_after : List ℕ → ℕ → ℕ → Option Heading → Found (List Leg)
legs_after ys at legs before = read_legs legs before (drop at ys)

-- the number of letters of the legs that are found
unfoldable pub sizes : Found (List Leg) → Found ℕ
sizes (fault k) = fault k
sizes (found ls rest) = found (length (hops ls)) rest

pub record CountsLegs (ys : List ℕ) (first legs : ℕ) (x : Result (ℕ × ℕ) LegRefusal) : Type 0 where
  pub told : number_told ys x ≡ sizes (legs_after ys first legs None)

-- the legs from index first on are all of the file, and have that many letters
pub record Whole (ys : List ℕ) (legs first total : ℕ) : Type 0 where
  pub legs-there : List Leg
  pub after : legs_after ys first legs None ≡ found legs-there []
  pub all : read_file ys ≡ found legs-there []
  pub total-is : length (hops legs-there) ≡ total

unfoldable pub CountsFile : List ℕ → Result Counted LegRefusal → Type 0
CountsFile ys (Ok x) = Whole ys x.legs x.first x.total
CountsFile ys (Err why) = read_file ys ≡ fault (leg_refusal_number why)

-- the legs from index first on are not refused, and there is room for their letters
pub record Readable (ys : List ℕ) (first legs : ℕ) (out : List ℕ) : Type 0 where
  pub legs-there : List Leg
  pub rest : List ℕ
  pub after : legs_after ys first legs None ≡ found legs-there rest
  pub room : length (hops legs-there) ≤ length out

-- the letters of the legs from index first on
unfoldable pub letters_from : List ℕ → ℕ → ℕ → List ℕ
letters_from ys first legs = letters (hops (legs_in (legs_after ys first legs None)))
