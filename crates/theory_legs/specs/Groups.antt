-- The numbers of a file of legs (document 02, E3): groups of seven bits, lowest group first, top bit set on all groups but a number's last,
-- never a group more than needed; three groups at most; no number exceeds 65,535. Assumes nothing.
use Rattle.std.specs.Prelude.{cond, List, [], ◌∷◌, ℕ, zero, suc, ◌+◌, ◌*◌, ◌/◌, ◌%◌, ltb}

-- the groups of a number, k at most
unfoldable pub groups : ℕ → ℕ → List ℕ
groups zero n = []
groups (suc k) n =
    let more = (128 + n % 128) ∷ groups k (n / 128) in
    cond (ltb n 128) (n ∷ []) more

-- a number as bytes
unfoldable pub number_bytes : ℕ → List ℕ
number_bytes n = groups 3 n

-- Reading from the front

-- what reading comes to: the number of a fault, or what was read, and the bytes after it
pub data Found (A : Type 0) : Type 0 where
  fault : ℕ → Found A
  found : A → List ℕ → Found A

-- the first fault met is the answer
unfoldable pub and_then : {A B : Type 0} → Found A → (A → List ℕ → Found B) → Found B
and_then (fault k) next = fault k
and_then (found a rest) next = next a rest

-- a group g with its top bit set, before groups that come to n: 20 these are needless
unfoldable pub above : ℕ → ℕ → List ℕ → Found ℕ
above g zero rest = fault 20
above g (suc n) rest = found (g % 128 + suc n * 128) rest

-- a number of k groups at most: 19 cut short, 20 with a needless group or with more groups
unfoldable pub read_groups : ℕ → List ℕ → Found ℕ
read_groups zero xs = fault 20
read_groups (suc k) [] = fault 19
read_groups (suc k) (g ∷ rest) =
    let more = and_then (read_groups k rest) (above g) in
    cond (ltb g 128) (found g rest) more

-- 20 a number too large
unfoldable pub not_large : ℕ → List ℕ → Found ℕ
not_large n rest = cond (ltb 65535 n) (fault 20) (found n rest)

-- a number: 19 cut short, 20 too large or with a needless group
unfoldable pub read_number : List ℕ → Found ℕ
read_number xs = and_then (read_groups 3 xs) not_large
