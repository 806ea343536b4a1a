-- A map's marking in a lent buffer. Assumes nothing.
use Rattle.std.specs.Prelude.{◌≡◌, List, ℕ, length, take, Result, Ok, ⊤}
use Rattle.mesh.specs.declared.Refusal.{Refusal}
use Rattle.mesh.specs.Mesh.{mesh}
use Rattle.mesh.specs.Tests.{first}
use Rattle.mesh.specs.Numbers.{checked_number}
use Rattle.mesh.specs.Rounds.{marked}
use Rattle.mesh.specs.Maps.{map_tests}

-- x tells refusals 1 to 5; if none applies, the first numbers are the marking
pub record MarksMap (columns rows : ℕ) (map : List ℕ) (x : Result ⊤ Refusal) (after : List ℕ) : Type 0 where
  pub checks : checked_number x ≡ first (map_tests columns rows map)
  pub marks : x ≡ Ok tt → take (length map) after ≡ (marked (mesh columns rows map)).map
