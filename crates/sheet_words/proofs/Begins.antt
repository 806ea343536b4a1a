-- What a text begins with: std's answer is the definition's. Assumes nothing.
use Rattle.std.proofs.Common.{◌≡◌, ℕ, true, false, ◌&&◌, List, [], ◌∷◌, length, take, drop, None, Some, refl, arith, nat_eq}
use Rattle.std.proofs.lemmas.Grind.{common_steps}
use Rattle.std.specs.Cmp.Lexicographic.{pointwise}
use Rattle.sheet_words.specs.Words.{begins, number, spaced, sizes, ended, two, fault, send, command, mesh_word, fault_word, send_word}
use Rattle.sheet_words.specs.Reading.{after}
use Rattle.sheet_words.proofs.Conds.{none-cond, some-cond}

swapped : (w x : ℕ) → nat_eq x w ≡ nat_eq w x
swapped w x = grind (arith, common_steps)

pub same-begins : (word xs : List ℕ) → pointwise nat_eq (take (length word) xs) word ≡ begins word xs
unfolding begins
same-begins [] xs = refl
same-begins (w ∷ ws) [] = refl
same-begins (w ∷ ws) (x ∷ xs) = rw (same-begins ws xs, swapped w x) refl

pub after-none : (word xs : List ℕ) → after word xs ≡ None → begins word xs ≡ false
unfolding after
after-none word xs e = none-cond (begins word xs) _ e

pub after-some : (word xs ys : List ℕ) → after word xs ≡ Some ys → (begins word xs ≡ true) × (drop (length word) xs ≡ ys)
unfolding after
after-some word xs ys e = some-cond (begins word xs) _ _ e

-- a single space, and a number after it
pub spaced-none : (xs : List ℕ) → after (32 ∷ []) xs ≡ None → None ≡ spaced xs
unfolding spaced after begins
spaced-none [] e = refl
spaced-none (x ∷ xs) e = let n = none-cond (nat_eq 32 x && true) _ e in grind (arith, common_steps)

pub spaced-number : (xs ys : List ℕ) → after (32 ∷ []) xs ≡ Some ys → number ys ≡ spaced xs
unfolding spaced after begins
spaced-number (x ∷ xs) ys e = let n = some-cond (nat_eq 32 x && true) _ _ e in grind (arith, common_steps)
spaced-number [] ys e = grind (arith, common_steps)

-- a line, by its first word
pub command-mesh : (xs ys : List ℕ) → after mesh_word xs ≡ Some ys → sizes (ended (two ys)) ≡ command xs
unfolding command
command-mesh xs ys m = let n = after-some mesh_word _ _ m in rw (n.0, n.1) refl

module _ (xs : List ℕ) (m : after mesh_word xs ≡ None) where
  pub command-fault : (ys : List ℕ) → after fault_word xs ≡ Some ys → fault (ended (two ys)) ≡ command xs
  unfolding command
  command-fault ys f = let n = after-some fault_word _ _ f in rw (after-none mesh_word _ m, n.0, n.1) refl

  module _ (f : after fault_word xs ≡ None) where
    pub command-send : (ys : List ℕ) → after send_word xs ≡ Some ys → send (two ys) ≡ command xs
    unfolding command
    command-send ys s = let n = after-some send_word _ _ s in rw (after-none mesh_word _ m, after-none fault_word _ f, n.0, n.1) refl

    pub command-none : after send_word xs ≡ None → None ≡ command xs
    unfolding command
    command-none s = rw (after-none mesh_word _ m, after-none fault_word _ f, after-none send_word _ s) refl
