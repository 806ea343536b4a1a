-- What a node becomes in a round, case by case. Assumes nothing.
use mathlib.Core.Path.{◌≡◌, refl}
use mathlib.Core.Bool.{Bool, true, false}
use Prim.Native.Nat.{ℕ, zero, suc, ◌+◌, ◌*◌}
use lib.ListN.{get_or}
use Rattle.mesh.specs.Mesh.{Mesh}
use Rattle.mesh.specs.Nodes.{bad, unsafe}
use Rattle.mesh.specs.Rounds.{become}
use Rattle.nodes.specs.Rounds.{node_after}

become-bad : (b : Bool) (x : ℕ) → (x ≡ 0 → ⊥) → x ≡ become b x
unfolding become
become-bad true zero h = absurd (h refl)
become-bad false zero h = absurd (h refl)
become-bad true (suc x) h = refl
become-bad false (suc x) h = refl

module _ (w : Mesh) (r c : ℕ) where
  pub node-bad : (get_or w.map (r * w.columns + c) 0 ≡ 0 → ⊥) → get_or w.map (r * w.columns + c) 0 ≡ node_after w r c
  unfolding node_after
  node-bad h = become-bad _ _ h

  module _ {u : Bool} (sound : get_or w.map (r * w.columns + c) 0 ≡ 0) (is-u : u ≡ unsafe (bad w) r c) where
    pub node-turns : u ≡ true → 2 ≡ node_after w r c
    unfolding node_after become
    node-turns e = rw (← is-u, e, sound)

    pub node_stays : u ≡ false → 0 ≡ node_after w r c
    unfolding node_after become
    node_stays e = rw (← is-u, e, sound)
