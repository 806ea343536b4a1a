-- A pick on a marking already made. Assumes nothing.
use Rattle.mesh.specs.declared.Refusal.{Refusal}
use Rattle.std.specs.Prelude.{◌≡◌, List, ℕ, Result}
use Rattle.mesh.specs.declared.Network.TheVariants.{First, Second}
use Rattle.mesh.specs.declared.Place.{Place}
use Rattle.mesh.specs.Mesh.{Mesh}
use Rattle.mesh.specs.Routing.{routed_answer}
use Rattle.theory_pick.specs.declared.Picked.{Picked}
use Rattle.theory_pick.specs.Picking.{pick_of, better}
use Rattle.routing.specs.Marked.{RoutesOn}

-- both networks have routed, each with its own buffer, and the better answer is picked
pub record PicksOn (w : Mesh) (s d : Place) (first second : List ℕ) (r : Result Picked Refusal) (first' second' : List ℕ) : Type 0 where
  pub one : Result ℕ Refusal
  pub two : Result ℕ Refusal
  pub routes-first : RoutesOn First w s d first one first'
  pub routes-second : RoutesOn Second w s d second two second'
  pub picks : pick_of r ≡ better (routed_answer one) (routed_answer two)
