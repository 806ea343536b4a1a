-- The nodes of a mesh: which are bad, and which become unsafe (document 01, "Blocks and rings"). Assumes nothing.
use Rattle.std.specs.Prelude.{Bool, true, false, cond, ◌&&◌, ◌||◌, List, [], ◌∷◌, ℕ, zero, suc, ◌+◌, ◌-◌, ◌*◌, leb, eqb, get_or}
use Rattle.mesh.specs.Mesh.{Mesh, on_mesh}
use Rattle.mesh.specs.Headings.{Heading, E, N, S, W}

-- faulty or unsafe
unfoldable pub is_bad : ℕ → Bool
is_bad zero = false
is_bad (suc x) = true

-- how many nodes of a map have the number n
unfoldable pub how_many : ℕ → List ℕ → ℕ
how_many n [] = 0
how_many n (x ∷ xs) = cond (eqb x n) 1 0 + how_many n xs

-- the node at (r, c) is bad; places beyond the mesh are never bad
unfoldable pub bad : Mesh → ℕ → ℕ → Bool
bad w r c = on_mesh w r c && is_bad (get_or w.map (r * w.columns + c) 0)

-- the node k hops that way from (r, c) is bad, of any account B of the bad nodes; nothing lies south of row 0 or west of column 0
unfoldable pub ahead : (ℕ → ℕ → Bool) → Heading → ℕ → ℕ → ℕ → Bool
ahead B E k r c = B r (c + k)
ahead B N k r c = B (r + k) c
ahead B S k r c = leb k r && B (r - k) c
ahead B W k r c = leb k c && B r (c - k)

-- its north or south neighbour is bad
unfoldable pub upright : (ℕ → ℕ → Bool) → ℕ → ℕ → Bool
upright B r c = ahead B N 1 r c || ahead B S 1 r c

-- rule (a): two neighbours are bad, and these aren't just north and south: they are east and west, or one of these and one of those
unfoldable pub rule_a : (ℕ → ℕ → Bool) → ℕ → ℕ → Bool
rule_a B r c =
    (ahead B E 1 r c && ahead B W 1 r c) || ((ahead B E 1 r c || ahead B W 1 r c) && upright B r c)

-- rule (b): its north or south neighbour is bad, and a node two columns east or west in its row is bad
unfoldable pub rule_b : (ℕ → ℕ → Bool) → ℕ → ℕ → Bool
rule_b B r c = upright B r c && (ahead B E 2 r c || ahead B W 2 r c)

unfoldable pub unsafe : (ℕ → ℕ → Bool) → ℕ → ℕ → Bool
unsafe B r c = rule_a B r c || rule_b B r c

-- a node in the row of (r, c), one or two columns away, is bad, of any account B
unfoldable pub near_in_row : (ℕ → ℕ → Bool) → ℕ → ℕ → Bool
near_in_row B r c = (ahead B E 1 r c || ahead B W 1 r c) || (ahead B E 2 r c || ahead B W 2 r c)
