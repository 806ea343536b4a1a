-- A list of sends read four numbers at a time. Assumes nothing.
use mathlib.Core.Path.{◌≡◌}
use mathlib.Core.List.{List, [], ◌∷◌}
use Prim.Native.Nat.{ℕ, suc, ◌+◌, ◌*◌, ◌≤◌, ◌<◌}
use native.Mathlib.Omega.{arith}
use lib.ListN.{length, drop, get_or, drop_of_length-le}
use lib.Seq.{drop-cons}
use Rattle.theory_batch.specs.Sends.{sends_of}
use Rattle.sends.specs.Sends.{send_at}

one : (xs : List ℕ) (j k : ℕ) → k ≡ suc j → j < length xs → drop j xs ≡ get_or xs j 0 ∷ drop k xs
one xs j k e h = rw e (drop-cons xs j 0 h)

four : (xs : List ℕ) (j : ℕ) → j + 3 < length xs →
    drop j xs ≡ get_or xs j 0 ∷ get_or xs (j + 1) 0 ∷ get_or xs (j + 2) 0 ∷ get_or xs (j + 3) 0 ∷ drop (j + 4) xs
four xs j h =
    rw (
      one xs j (j + 1) (omega arith) (omega arith),
      one xs (j + 1) (j + 2) (omega arith) (omega arith),
      one xs (j + 2) (j + 3) (omega arith) (omega arith),
      one xs (j + 3) (j + 4) (omega arith) (omega arith),
    )

-- the send of index i, and those after it
pub sends-next : (xs : List ℕ) (i : ℕ) → 4 * i + 3 < length xs → sends_of (drop (4 * i) xs) ≡ send_at xs i ∷ sends_of (drop (4 * (i + 1)) xs)
unfolding sends_of
sends-next xs i h =
    let next : 4 * i + 4 ≡ 4 * (i + 1) = omega arith in
    rw (four xs (4 * i) h, next)

pub sends-end : (xs : List ℕ) (i : ℕ) → length xs ≤ 4 * i → sends_of (drop (4 * i) xs) ≡ []
unfolding sends_of
sends-end xs i h = rw (drop_of_length-le xs {i = 4 * i} h)
