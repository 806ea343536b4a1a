-- The rounds of a marking, one after the other (document 02, E7). Assumes nothing.
use Rattle.std.specs.Prelude.{◌≡◌, List, ℕ, zero, suc, ◌<◌}
use Rattle.mesh.specs.Mesh.{Mesh}
use Rattle.mesh.specs.Nodes.{how_many}
use Rattle.mesh.specs.Rounds.{round, on}

-- how many nodes of a map are safe, and how many unsafe
abbrev pub safe_nodes : List ℕ → ℕ
safe_nodes m = how_many 0 m

abbrev pub unsafe_nodes : List ℕ → ℕ
unsafe_nodes m = how_many 2 m

-- the map after k rounds
unfoldable pub after : ℕ → Mesh → List ℕ
after zero w = w.map
after (suc k) w = after k (on w (round w))

-- round number n is the first that changes nothing, and m the map that it leaves as it is
pub record FirstQuiet (w : Mesh) (n : ℕ) (m : List ℕ) : Type 0 where
  pub before : ℕ
  pub number : n ≡ suc before
  pub changing : (j : ℕ) → j < before → round (on w (after j w)) ≡ after j w → ⊥
  pub quiet : round (on w m) ≡ m
  pub result : after before w ≡ m
