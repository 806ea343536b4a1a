-- Packets that hold channels of their routes and wait for further ones (document 02, E9). Assumes nothing.
use Rattle.std.specs.Prelude.{◌≡◌, ℕ, Option, Some, None, List, [], ◌∷◌, ◌++◌}
use mathlib.Core.List.{Memᴰ}
use Rattle.mesh.specs.declared.Heading.{Heading}
use Rattle.mesh.specs.declared.Network.{Network}
use Rattle.mesh.specs.declared.Place.{Place}
use Rattle.mesh.specs.Headings.{named}
use Rattle.mesh.specs.Hops.{At, fresh}
use Rattle.mesh.specs.Judging.{follow, Verdict, passed, judgement}
use Rattle.theory_channels.specs.Channels.{Channel}

-- a hand_in: source, destination and the bytes of its letters
pub record HandIn : Type 0 where
  pub source : Place
  pub destination : Place
  pub letters : List ℕ

-- what judging says of it
abbrev pub verdict : Network → ℕ → ℕ → List ℕ → HandIn → Verdict
verdict network columns rows map h = judgement network columns rows map h.source h.destination h.letters

-- judging passes it
abbrev pub Passed : Network → ℕ → ℕ → List ℕ → HandIn → Type 0
Passed network columns rows map h = (n : ℕ) × (verdict network columns rows map h ≡ passed n)

-- the channel of a letter's hop from p, before further ones; a byte that is no letter has none
unfoldable pub through : Option Heading → At → List Channel → List Channel
through None p more = more
through (Some h) p more = record { row = p.row; column = p.column; way = h } ∷ more

-- the channels that letters lead through from p, in order
unfoldable pub channels : At → List ℕ → List Channel
channels p [] = []
channels p (x ∷ xs) = through (named x) p (channels (follow (named x) p) xs)

-- the route of a hand_in, channel by channel
unfoldable pub route : HandIn → List Channel
route h = channels (fresh h.source) h.letters

-- Channel b comes right after channel a in the route of one of a set of hand-ins: a packet that holds a may wait for b.
pub record NextOnRoute (Set : HandIn → Type 0) (a b : Channel) : Type 0 where
  pub hand_in : HandIn
  pub member : Set hand_in
  pub before : List Channel
  pub after : List Channel
  pub in_order : route hand_in ≡ before ++ (a ∷ b ∷ after)

-- A packet on the route of one of a set of hand-ins: it has left some channels behind, holds those after them, and waits for the next one.
-- One that is not yet under way holds none, and nobody waits for it.
pub record Waiting (Set : HandIn → Type 0) : Type 0 where
  pub hand_in : HandIn
  pub member : Set hand_in
  pub left : List Channel
  pub held : List Channel
  pub wanted : Channel
  pub ahead : List Channel
  pub in_order : route hand_in ≡ left ++ (held ++ (wanted ∷ ahead))

-- p waits for q: q holds the channel that p waits for
pub record WaitsFor (Set : HandIn → Type 0) (p q : Waiting Set) : Type 0 where
  pub holds : Memᴰ p.wanted q.held

-- one of a list of waiting packets can go on: no packet of the list holds the channel that it waits for
pub record CanGoOn (Set : HandIn → Type 0) (packets : List (Waiting Set)) : Type 0 where
  pub packet : Waiting Set
  pub listed : Memᴰ packet packets
  pub free : (q : Waiting Set) → Memᴰ q packets → WaitsFor Set packet q → ⊥
