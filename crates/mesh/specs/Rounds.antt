-- The marking of unsafe nodes in rounds, until nothing changes (document 01, "Blocks and rings"), and how many these are (document 02, E7).
-- Assumes nothing.
use Rattle.std.specs.Prelude.{Bool, true, false, cond, ◌&&◌, List, [], ◌∷◌, ℕ, zero, suc, ◌*◌, ◌/◌, ◌%◌, eqb}
use Rattle.mesh.specs.Mesh.{Mesh}
use Rattle.mesh.specs.Nodes.{bad, unsafe}

-- a sound node that the rules make unsafe becomes 2
unfoldable pub become : Bool → ℕ → ℕ
become true zero = 2
become false zero = 0
become true (suc x) = suc x
become false (suc x) = suc x

-- the numbers from index i of the map on, each with the rules' verdict
unfoldable pub advance : (ℕ → Bool) → ℕ → List ℕ → List ℕ
advance u i [] = []
advance u i (x ∷ xs) = become (u i) x ∷ advance u (suc i) xs

-- one round, all nodes at once
unfoldable pub round : Mesh → List ℕ
round w = advance (λ i. unsafe (bad w) (i / w.columns) (i % w.columns)) 0 w.map

-- the same mesh with another map
abbrev pub on : Mesh → List ℕ → Mesh
on w m = record { columns = w.columns; rows = w.rows; map = m }

unfoldable pub same_list : List ℕ → List ℕ → Bool
same_list [] [] = true
same_list [] (y ∷ ys) = false
same_list (x ∷ xs) [] = false
same_list (x ∷ xs) (y ∷ ys) = eqb x y && same_list xs ys

-- where rounds come to rest: the map, and how many they were
pub record Rest : Type 0 where
  pub map : List ℕ
  pub rounds : ℕ

-- with one round more before it
abbrev pub later : Rest → Rest
later x = record { map = x.map; rounds = suc x.rounds }

-- rounds until nothing changes, that last one included; at most k
unfoldable pub settle : ℕ → Mesh → Rest
settle zero w = record { map = w.map; rounds = 0 }
settle (suc k) w =
    let next = round w in
    let rest = settle k (on w next) in
    cond (same_list next w.map) (record { map = w.map; rounds = 1 }) (later rest)

-- where the rounds of a fault map come to rest; one that changes something adds a node, so these rounds are enough
abbrev pub settled : Mesh → Rest
settled w = settle (suc (w.columns * w.rows)) w

-- the least marking of a fault map
abbrev pub marked : Mesh → Mesh
marked w = on w (settled w).map

-- the number of its rounds, including the last, in which nothing changes
abbrev pub rounds : Mesh → ℕ
rounds w = (settled w).rounds
