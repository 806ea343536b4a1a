-- Lists in which each member is a step before the next. Assumes nothing.
use Rattle.std.proofs.Common.{refl, ◌≢◌, List, [], ◌∷◌, ◌++◌}
use mathlib.Core.List.Memᴰ
use mathlib.Core.List.{Memᴰ}
use Rattle.theory_blocks.specs.Obstacles.{Pairs, none, more as later}
use Rattle.theory_channels.specs.Chains.{Chain, one, more, NoRing}

pub data Linked {A : Type 0} (Step : A → A → Type 0) : List A → Type 0 where
  empty : Linked Step []
  single : {a : A} → Linked Step (a ∷ [])
  link : {a b : A} {rest : List A} → Step a b → Linked Step (b ∷ rest) → Linked Step (a ∷ b ∷ rest)

module _ {A : Type 0} {Step : A → A → Type 0} where
  pub linked-step : {a b : A} {rest : List A} → Linked Step (a ∷ b ∷ rest) → Step a b
  linked-step (link s l) = s

  linked-rest : {a : A} {rest : List A} → Linked Step (a ∷ rest) → Linked Step rest
  linked-rest single = empty
  linked-rest (link s l) = l

  -- what comes after some members
  pub linked-after : (xs ys : List A) → Linked Step (xs ++ ys) → Linked Step ys
  linked-after [] ys l = l
  linked-after (x ∷ xs) ys l = linked-after xs ys (linked-rest l)

  -- from the first member a chain leads to each later one,
  first-chain : (a : A) (rest : List A) → Linked Step (a ∷ rest) → (b : A) → Memᴰ b rest → Chain Step a b
  first-chain a [] l b m = absurd (Memᴰ.not-nil m)
  first-chain a (x ∷ xs) l b (Memᴰ.head e) = rw e (one (linked-step l))
  first-chain a (x ∷ xs) l b (Memᴰ.tail m) = more (linked-step l) (first-chain x xs (linked-rest l) b m)

  -- and from each of some members to the one after them
  pub chain-to-next : (xs : List A) (y : A) (rest : List A) → Linked Step (xs ++ (y ∷ rest)) → (x : A) → Memᴰ x xs → Chain Step x y
  chain-to-next [] y rest l x m = absurd (Memᴰ.not-nil m)
  chain-to-next (z ∷ zs) y rest l x (Memᴰ.head e) = rw e (first-chain z (zs ++ (y ∷ rest)) l y (among zs))
    where
      among : (us : List A) → Memᴰ y (us ++ (y ∷ rest))
      among [] = Memᴰ.head refl
      among (u ∷ us) = Memᴰ.tail (among us)
  chain-to-next (z ∷ zs) y rest l x (Memᴰ.tail m) = chain-to-next zs y rest (linked-rest l) x m

  -- so without a ring no member comes twice
  pub linked-once : NoRing Step → (xs : List A) → Linked Step xs → Pairs ◌≢◌ xs
  linked-once no-ring [] l = none
  linked-once no-ring (x ∷ xs) l =
      later (λ y m e. no-ring x (rw (← e) at (first-chain x xs l y m))) (linked-once no-ring xs (linked-rest l))
