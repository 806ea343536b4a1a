-- Refusals 1 to 5: the mesh and its fault map (document 01, "Mark blocks"). Assumes nothing.
use Rattle.std.specs.Prelude.{Bool, false, not, ◌&&◌, ◌||◌, List, [], ◌∷◌, ℕ, suc, ◌+◌, ◌*◌, ◌/◌, ◌%◌, leb, ltb, eqb, length}
use Rattle.mesh.specs.Tests.{Test, ◌gives◌}
use Rattle.mesh.specs.Nodes.{is_bad}

-- 1, 2: not 1 to 64
unfoldable pub bad_size : ℕ → Bool
bad_size n = eqb n 0 || ltb 64 n

-- 3: map length other than columns × rows
unfoldable pub bad_length : ℕ → ℕ → List ℕ → Bool
bad_length columns rows map = not (eqb (length map) (columns * rows))

-- some number of a list passes a test, which is given its index too; the first one's index is i
unfoldable pub some : (ℕ → ℕ → Bool) → ℕ → List ℕ → Bool
some t i [] = false
some t i (x ∷ xs) = t i x || some t (suc i) xs

-- 4: a map byte above 1
unfoldable pub bad_byte : List ℕ → Bool
bad_byte map = some (λ i x. ltb 1 x) 0 map

-- where a fault may lie: columns 2 to columns - 3 and rows 1 to rows - 2
unfoldable pub allowed : ℕ → ℕ → ℕ → ℕ → Bool
allowed columns rows r c = (leb 1 r && ltb (r + 1) rows) && (leb 2 c && ltb (c + 2) columns)

-- a fault at index i of the map, where none is allowed
unfoldable pub misplaced_at : ℕ → ℕ → ℕ → ℕ → Bool
misplaced_at columns rows i x = is_bad x && not (allowed columns rows (i / columns) (i % columns))

-- 5: a fault where none is allowed
unfoldable pub misplaced : ℕ → ℕ → List ℕ → Bool
misplaced columns rows map = some (misplaced_at columns rows) 0 map

-- refusals 1 to 5
unfoldable pub map_tests : ℕ → ℕ → List ℕ → List Test
map_tests columns rows map =
    bad_size columns gives 1 ∷
    bad_size rows gives 2 ∷
    bad_length columns rows map gives 3 ∷
    bad_byte map gives 4 ∷
    misplaced columns rows map gives 5 ∷
    []
