-- Routing on a marking already made. Assumes nothing.
use Rattle.mesh.specs.declared.Refusal.{Refusal}
use Rattle.std.specs.Prelude.{◌≡◌, List, ℕ, length, Result}
use Rattle.mesh.specs.declared.Network.{Network}
use Rattle.mesh.specs.declared.Place.{Place}
use Rattle.mesh.specs.Mesh.{Mesh}
use Rattle.mesh.specs.Headings.{letters}
use Rattle.mesh.specs.Tests.{first}
use Rattle.mesh.specs.Numbers.{answer, written}
use Rattle.mesh.specs.Routing.{routed_answer, hops_of, send_tests}

-- refusals 6 to 10; else the number of hops, and their letters
pub record RoutesOn (network : Network) (w : Mesh) (s d : Place) (out : List ℕ) (r : Result ℕ Refusal) (after : List ℕ) : Type 0 where
  pub answers : routed_answer r ≡ answer (first (send_tests network w s d out)) (length (hops_of network w s d))
  pub writes : after ≡ written (first (send_tests network w s d out)) (letters (hops_of network w s d)) out
