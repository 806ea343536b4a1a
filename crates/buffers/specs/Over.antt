-- What stands in a buffer after bytes or numbers were written into it. Assumes nothing.
use Rattle.std.specs.Prelude.{◌≡◌, List, [], ◌∷◌, ℕ, ◌+◌, ◌≤◌, length, set}

-- ys stand in xs from index i on, one after another
unfoldable pub over : List ℕ → ℕ → List ℕ → List ℕ
over xs i [] = xs
over xs i (y ∷ ys) = over (set xs i y) (i + 1) ys

-- ys were written into a buffer from index at on, all else is as it was, and x is the index after them, still in it
pub record Puts (out : List ℕ) (at : ℕ) (ys : List ℕ) (x : ℕ) (after : List ℕ) : Type 0 where
  pub next : x ≡ at + length ys
  pub stands : after ≡ over out at ys
  pub fits : x ≤ length out

-- a number put first, if there is room for it; nothing else is touched
unfoldable pub put_first : ℕ → List ℕ → List ℕ
put_first i [] = []
put_first i (x ∷ xs) = i ∷ xs
