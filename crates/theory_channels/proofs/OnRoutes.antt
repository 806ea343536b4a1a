-- Hand-ins on one mesh and map, all passed on one network: on their routes each channel may follow the one before it, and waiting leads on. Assumes
-- nothing.
use Rattle.std.proofs.Common.{List, ◌∷◌, ◌++◌, ℕ}
use Rattle.mesh.specs.declared.Network.{Network}
use Rattle.mesh.specs.Mesh.{mesh}
use Rattle.mesh.specs.Parity.{turns_west}
use Rattle.theory_channels.specs.Chains.{Chain}
use Rattle.theory_channels.specs.Channels.{Channel, MayFollow}
use Rattle.theory_channels.specs.Waiting.{HandIn, Passed, NextOnRoute, Waiting, WaitsFor}
use Rattle.theory_channels.proofs.Linked.{linked-step, linked-after, chain-to-next}
use Rattle.theory_channels.proofs.Routes.{passed-linked}

module _ (network : Network) (columns rows : ℕ) (map : List ℕ) (Set : HandIn → Type 0)
    (all-passed : (h : HandIn) → Set h → Passed network columns rows map h) where
  pub next-follows : (a b : Channel) → NextOnRoute Set a b → MayFollow (turns_west network) (mesh columns rows map) a b
  next-follows a b n =
      let linked = passed-linked network columns rows map n.hand_in (all-passed n.hand_in n.member).1 in
      linked-step (linked-after n.before (a ∷ b ∷ n.after) (rw n.in_order at linked))

  pub leads-on : (p q : Waiting Set) → WaitsFor Set p q → Chain (MayFollow (turns_west network) (mesh columns rows map)) p.wanted q.wanted
  leads-on p q s =
      let linked = passed-linked network columns rows map q.hand_in (all-passed q.hand_in q.member).1 in
      chain-to-next q.held q.wanted q.ahead
      (linked-after q.left (q.held ++ (q.wanted ∷ q.ahead)) (rw q.in_order at linked))
      p.wanted
      s.holds
