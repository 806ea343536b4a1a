-- A list from an index on, as a part of it is lent. Assumes nothing.
use Rattle.std.proofs.Common.{take-add, ◌≡◌, List, ◌++◌, ℕ, ◌+◌, ◌-◌, ◌≤◌, arith, length, take, drop, length-drop}
use Rattle.std.proofs.lemmas.List.{length-take-le, take-take}

abbrev pub from : ℕ → List ℕ → List ℕ
from i bytes = take (length bytes - i) (drop i bytes)

module _ (i : ℕ) (bytes : List ℕ) where
  pub from-size : length (from i bytes) ≡ length bytes - i
  from-size = length-take-le (length bytes - i) (drop i bytes) (omega (arith, length-drop i bytes))

  pub from_more : (k : ℕ) → k ≤ length (from i bytes) → take (i + k) bytes ≡ take i bytes ++ take k (from i bytes)
  from_more k h =
      let within : k ≤ length bytes - i = omega (arith, from-size) in
      rw (take-take k (length bytes - i) (drop i bytes) within) (take-add i k bytes)
