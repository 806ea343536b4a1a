-- What is shown of legs and their files: xs are letters, ys the bytes of a file. Assumes nothing.
use Rattle.std.specs.Prelude.{◌≡◌, ◌≢◌, false, List, [], ◌∷◌, ◌++◌, ℕ, ◌≤◌, ◌<◌, length, get_or, Option, Some}
use Rattle.mesh.specs.declared.Heading.{Heading}
use Rattle.mesh.specs.declared.Heading.TheVariants.{East as E}
use Rattle.mesh.specs.Headings.{letter, last_is}
use Rattle.mesh.specs.Tests.{first}
use Rattle.theory_legs.specs.Legs.{Leg, leg}
use Rattle.theory_legs.specs.Converting.{letter_tests, file_of, file_tests}

-- a list of bytes
unfoldable pub Bytes : List ℕ → Type 0
Bytes [] = Unit {0}
Bytes (x ∷ xs) = (x < 256) × Bytes xs

-- straight runs after one in that direction: none is empty, and neighbours differ in direction
unfoldable pub Straight : Option Heading → List Leg → Type 0
Straight before [] = Unit {0}
Straight before (l ∷ ls) = (last_is before l.heading ≡ false) × (1 ≤ l.length) × Straight (Some l.heading) ls

-- some letter is not one of E, N, S, W
pub record SomeOther (xs : List ℕ) : Type 0 where
  pub index : ℕ
  pub within : index < length xs
  pub no-letter : (h : Heading) → get_or xs index 0 ≢ letter h

-- some leg is over 16,384
pub record SomeLong (ls : List Leg) : Type 0 where
  pub index : ℕ
  pub within : index < length ls
  pub long : 16384 < (get_or ls index (leg E 0)).length

-- letters to legs and legs to letters take them, with room enough
abbrev pub RouteAccepted : List ℕ → Type 0
RouteAccepted xs = first (letter_tests xs) ≡ 0

abbrev pub FileAccepted : List ℕ → Type 0
FileAccepted ys = first (file_tests ys) ≡ 0

-- the file of some route that is accepted
pub record FileOfRoute (ys : List ℕ) : Type 0 where
  pub route : List ℕ
  pub accepted : RouteAccepted route
  pub spelled : file_of route ≡ ys

-- an accepted file, and bytes left over
pub record LeftOver (ys : List ℕ) : Type 0 where
  pub front : List ℕ
  pub accepted : FileAccepted front
  pub rest : List ℕ
  pub some : 0 < length rest
  pub whole : ys ≡ front ++ rest
