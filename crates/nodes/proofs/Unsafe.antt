-- Rules (a) and (b) with a bad node to the north or south, and with none. Assumes nothing.
use Rattle.std.proofs.Common.{◌≡◌, refl, Bool, true, false, ◌&&◌, ◌||◌, ℕ}
use Rattle.mesh.specs.declared.Heading.TheVariants.{East as E, West as W}
use Rattle.mesh.specs.Nodes.{ahead, upright, rule_a, rule_b, unsafe}

with-upright : (e w t : Bool) → ((e && w) || ((e || w) && true)) || (true && t) ≡ (e || w) || t
with-upright true true t = refl
with-upright true false t = refl
with-upright false true t = refl
with-upright false false t = refl

with-none : (e w t : Bool) → ((e && w) || ((e || w) && false)) || (false && t) ≡ e && w
with-none true true t = refl
with-none true false t = refl
with-none false true t = refl
with-none false false t = refl

module _ (B : ℕ → ℕ → Bool) (r c : ℕ) where
  pub unsafe-upright : upright B r c ≡ true → unsafe B r c ≡ (ahead B E 1 r c || ahead B W 1 r c) || (ahead B E 2 r c || ahead B W 2 r c)
  unfolding unsafe rule_a rule_b
  unsafe-upright h = rw h (with-upright (ahead B E 1 r c) (ahead B W 1 r c) (ahead B E 2 r c || ahead B W 2 r c))

  pub unsafe-flat : upright B r c ≡ false → unsafe B r c ≡ ahead B E 1 r c && ahead B W 1 r c
  unfolding unsafe rule_a rule_b
  unsafe-flat h = rw h (with-none (ahead B E 1 r c) (ahead B W 1 r c) (ahead B E 2 r c || ahead B W 2 r c))
