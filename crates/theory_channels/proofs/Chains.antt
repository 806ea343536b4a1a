-- Chains of steps: one whose steps raise a number never comes back. Assumes nothing.
use Rattle.std.proofs.Common.{ℕ, ◌<◌, arith}
use Rattle.theory_channels.specs.Chains.{Chain, one, more, NoRing}

module _ {A : Type 0} {Step : A → A → Type 0} where
  joined : {a b c : A} → Chain Step a b → Chain Step b c → Chain Step a c
  joined (one s) on = more s on
  joined (more s rest) on = more s (joined rest on)

  -- a number that rises with each step rises along a chain,
  pub chain-rises : (f : A → ℕ) → ((a b : A) → Step a b → f a < f b) → {a b : A} → Chain Step a b → f a < f b
  chain-rises f rises (one s) = rises _ _ s
  chain-rises f rises (more s rest) = omega (arith, rises _ _ s, chain-rises f rises rest)

  -- which then never comes back
  pub rising-no-ring : (f : A → ℕ) → ((a b : A) → Step a b → f a < f b) → NoRing Step
  rising-no-ring f rises a ring = absurd (omega (arith, chain-rises f rises ring))

-- Where f takes each step of one kind to a chain of another,
module _ {A B : Type 0} {Step : A → A → Type 0} {Other : B → B → Type 0} (f : A → B) (taken : (a b : A) → Step a b → Chain Other (f a) (f b)) where
  -- it takes chains to chains,
  chain-taken : {a b : A} → Chain Step a b → Chain Other (f a) (f b)
  chain-taken (one s) = taken _ _ s
  chain-taken (more s rest) = joined (taken _ _ s) (chain-taken rest)

  -- and so rings to rings
  pub no-ring-taken : NoRing Other → NoRing Step
  no-ring-taken none a ring = none (f a) (chain-taken ring)
