-- Route (document 01, "The four operations"), on either network (document 02, E6). Assumes nothing.
use Rattle.std.specs.Prelude.{◌≡◌, List, [], ◌∷◌, ◌++◌, ℕ, suc, ltb, length, Result, Ok, Err}
use Rattle.mesh.specs.declared.Refusal.{Refusal}
use Rattle.mesh.specs.declared.Network.{Network}
use Rattle.mesh.specs.declared.Place.{Place}
use Rattle.mesh.specs.Mesh.{Mesh, mesh}
use Rattle.mesh.specs.Headings.{Heading, letters}
use Rattle.mesh.specs.Tests.{Test, ◌gives◌, first}
use Rattle.mesh.specs.Numbers.{number, Answer, refused, returned, answer, written}
use Rattle.mesh.specs.Rounds.{marked}
use Rattle.mesh.specs.Blocks.{blocks}
use Rattle.mesh.specs.Rules.{trip_on}
use Rattle.mesh.specs.Hops.{fresh}
use Rattle.mesh.specs.Walk.{walk, bound}
use Rattle.mesh.specs.Maps.{map_tests}
use Rattle.mesh.specs.Requests.{request_tests}

-- what it answers, in the paper's terms
abbrev pub routed_answer : Result ℕ Refusal → Answer
routed_answer (Ok n) = returned n
routed_answer (Err r) = refused (number r)

-- the hops of a request on a marked mesh; that they end at the destination within the bound is shown in theory_walk
unfoldable pub hops_of : Network → Mesh → Place → Place → List Heading
hops_of n w s d =
    let t = trip_on n w d in
    walk (suc (bound t (blocks w) s.row.0 s.column.0)) t (fresh s)

-- on a marked mesh: refusals 6 to 9; 10 the route is longer than the output
unfoldable pub send_tests : Network → Mesh → Place → Place → List ℕ → List Test
send_tests n w s d out = request_tests n w s d ++ (ltb (length out) (length (hops_of n w s d)) gives 10 ∷ [])

-- refusals 1 to 10
unfoldable pub route_refusal : Network → ℕ → ℕ → List ℕ → Place → Place → List ℕ → ℕ
route_refusal network columns rows map s d out =
    let w = marked (mesh columns rows map) in
    first (map_tests columns rows map ++ send_tests network w s d out)

-- it returns the number of hops,
abbrev pub route_answer : Network → ℕ → ℕ → List ℕ → Place → Place → List ℕ → Answer
route_answer network columns rows map s d out =
    answer (route_refusal network columns rows map s d out) (length (hops_of network (marked (mesh columns rows map)) s d))

-- and writes their letters into its output
abbrev pub route_output : Network → ℕ → ℕ → List ℕ → Place → Place → List ℕ → List ℕ
route_output network columns rows map s d out =
    written (route_refusal network columns rows map s d out) (letters (hops_of network (marked (mesh columns rows map)) s d)) out

-- the promise of "Route"
pub record Routes (network : Network) (columns rows : ℕ) (map : List ℕ) (s d : Place) (out : List ℕ) (r : Result ℕ Refusal) (after : List ℕ) : Type 0 where
  pub answers : routed_answer r ≡ route_answer network columns rows map s d out
  pub writes : after ≡ route_output network columns rows map s d out
