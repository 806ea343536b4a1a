-- A number put first, if there is room for it. Assumes nothing.
use mathlib.Core.Path.{◌≡◌, refl}
use mathlib.Core.List.{List, [], ◌∷◌}
use Prim.Native.Nat.{ℕ, ◌≤◌, ◌<◌}
use native.Mathlib.Omega.{arith}
use lib.ListN.{length, set}
use Rattle.buffers.specs.Over.{put_first}

pub put : (x : ℕ) (xs : List ℕ) → 0 < length xs → set xs 0 x ≡ put_first x xs
unfolding put_first
put x [] h = absurd (omega arith)
put x (y ∷ xs) h = refl

pub no_room : (x : ℕ) (xs : List ℕ) → length xs ≤ 0 → xs ≡ put_first x xs
unfolding put_first
no_room x [] h = refl
no_room x (y ∷ xs) h = absurd (omega arith)
