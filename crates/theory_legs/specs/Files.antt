-- The file of legs (document 02, E3): first the number of legs, then each leg as (length - 1) x 4 plus 0 E, 1 N, 2 W, 3 S. Assumes nothing.
use Rattle.std.specs.Prelude.{cond, List, [], ◌∷◌, ◌++◌, ℕ, zero, suc, ◌+◌, ◌-◌, ◌*◌, ◌/◌, ◌%◌, length, Option, Some, None}
use Rattle.mesh.specs.declared.Heading.{Heading}
use Rattle.mesh.specs.Headings.{last_is, code, direction}
use Rattle.theory_legs.specs.Groups.{number_bytes, Found, fault, found, and_then, read_number}
use Rattle.theory_legs.specs.Legs.{Leg, leg}

-- the number of a leg
unfoldable pub leg_number : Leg → ℕ
leg_number l = (l.length - 1) * 4 + code l.heading

-- the leg of a number
unfoldable pub leg_of : ℕ → Leg
leg_of n = leg (direction (n % 4)) (n / 4 + 1)

-- the numbers of legs, one after another
unfoldable pub leg_bytes : List Leg → List ℕ
leg_bytes [] = []
leg_bytes (l ∷ ls) = number_bytes (leg_number l) ++ leg_bytes ls

-- the file of legs
unfoldable pub file : List Leg → List ℕ
file ls = number_bytes (length ls) ++ leg_bytes ls

-- Reading from the front

-- a leg before the others that are found
unfoldable pub leg_before : Leg → Found (List Leg) → Found (List Leg)
leg_before l (fault k) = fault k
leg_before l (found ls rest) = found (l ∷ ls) rest

-- k legs after one in that direction; the first leg is after none: 19 and 20 at a number, 21 a leg in its forerunner's direction
unfoldable pub read_legs : ℕ → Option Heading → List ℕ → Found (List Leg)
read_legs zero before xs = found [] xs
read_legs (suc k) before xs =
    and_then (read_number xs) λ n rest.
    let others = read_legs k (Some (leg_of n).heading) rest in
    cond (last_is before (leg_of n).heading) (fault 21) (leg_before (leg_of n) others)

-- 22 bytes left over
unfoldable pub all_read : List Leg → List ℕ → Found (List Leg)
all_read ls [] = found ls []
all_read ls (x ∷ xs) = fault 22

-- the legs of a file
unfoldable pub read_file : List ℕ → Found (List Leg)
read_file xs = and_then (and_then (read_number xs) λ k rest. read_legs k None rest) all_read
