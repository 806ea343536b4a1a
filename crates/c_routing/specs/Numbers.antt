-- "Route" in numbers. Assumes nothing.
use Rattle.std.specs.Prelude.{◌≡◌, cond, List, ℕ}
use Rattle.mesh.specs.declared.Place.{Place}
use Rattle.mesh.specs.Numbers.{is_network, network_of, no_request, answer_code}
use Rattle.mesh.specs.Routing.{route_answer, route_output}

-- its promise: x is the number of hops, or 65,536 plus the refusal; 65,536 itself, and nothing is changed, if the number is no network's
pub record RoutesInNumbers (network columns rows : ℕ) (map : List ℕ) (s d : Place) (out : List ℕ) (x : ℕ) (after : List ℕ) : Type 0 where
  pub answers : x ≡ cond (is_network network) (answer_code (route_answer (network_of network) columns rows map s d out)) no_request
  pub writes : after ≡ cond (is_network network) (route_output (network_of network) columns rows map s d out) out
