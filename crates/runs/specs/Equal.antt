-- Equal bytes one after another. Assumes nothing.
use Rattle.std.specs.Prelude.{◌≡◌, ◌≢◌, List, ◌++◌, ℕ, ◌-◌, ◌≤◌, ◌<◌, length, get_or, drop, replicate}

-- from index i to before index j all bytes are x
pub record Same (xs : List ℕ) (i j x : ℕ) : Type 0 where
  pub begun : i ≤ j
  pub within : j ≤ length xs
  pub same : drop i xs ≡ replicate (j - i) x ++ drop j xs

-- a run of equal bytes from index i to before index j: the next is another, or there is none
pub record Run (xs : List ℕ) (i j : ℕ) : Type 0 where
  pub begun : i < j
  pub within : j ≤ length xs
  pub run : drop i xs ≡ replicate (j - i) (get_or xs i 0) ++ drop j xs
  pub ends : j < length xs → get_or xs j 0 ≢ get_or xs i 0
