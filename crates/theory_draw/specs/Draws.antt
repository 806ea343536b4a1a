-- Draws by number (document 02, E8): the states from a seed, the allowed places, and what is drawn of them. Assumes nothing.
use Rattle.std.specs.Prelude.{Bool, false, cond, ◌&&◌, ◌||◌, List, [], ◌∷◌, ℕ, zero, suc, ◌+◌, ◌*◌, ◌/◌, ◌%◌, ◌^◌, eqb, length, get_or, set, replicate}
use Rattle.mesh.specs.declared.Place.{Place}
use Rattle.mesh.specs.Mesh.{place}
use Rattle.mesh.specs.Blocks.{select}
use Rattle.mesh.specs.Maps.{allowed}

-- The states

-- a draw's new state, wrapping at 32 bits
unfoldable pub next_state : ℕ → ℕ
next_state state = (1664525 * state + 1013904223) % 2 ^ 32

-- the state after n draws from a seed
unfoldable pub state_after : ℕ → ℕ → ℕ
state_after seed zero = seed
state_after seed (suc n) = next_state (state_after seed n)

-- The allowed places

-- a fault may lie at index i of the map
unfoldable pub allowed_at : ℕ → ℕ → ℕ → Bool
allowed_at columns rows i = allowed columns rows (i / columns) (i % columns)

-- the allowed places: west to east, row by row from the lowest
unfoldable pub places : ℕ → ℕ → List Place
places columns rows = select (allowed_at columns rows) (λ i. place (i / columns) (i % columns)) (columns * rows) 0

-- how many there are
abbrev pub place_count : ℕ → ℕ → ℕ
place_count columns rows = length (places columns rows)

-- the one of a number, from 0 on; beyond the last there is none, and (0, 0) stands there
unfoldable pub place_numbered : ℕ → ℕ → ℕ → Place
place_numbered columns rows k = get_or (places columns rows) k (place 0 0)

-- What is drawn

-- the number that a state picks of n: the whole part of state × n / 2^32
unfoldable pub picked : ℕ → ℕ → ℕ
picked n state = state * n / 2 ^ 32

-- the place that it picks
unfoldable pub picked_place : ℕ → ℕ → ℕ → Place
picked_place columns rows state = place_numbered columns rows (picked (place_count columns rows) state)

-- the places of n draws from a seed, the last draw first: each picks by its new state
unfoldable pub drawn_places : ℕ → ℕ → ℕ → ℕ → List Place
drawn_places columns rows seed zero = []
drawn_places columns rows seed (suc n) = picked_place columns rows (state_after seed (suc n)) ∷ drawn_places columns rows seed n

-- The map of places

-- a place's index in a map
unfoldable pub index_of : ℕ → Place → ℕ
index_of columns p = p.row.0 * columns + p.column.0

-- the map with faults at these places
unfoldable pub fault_map : ℕ → ℕ → List Place → List ℕ
fault_map columns rows [] = replicate (columns * rows) 0
fault_map columns rows (p ∷ ps) = set (fault_map columns rows ps) (index_of columns p) 1

-- two places are the same
unfoldable pub same_place : Place → Place → Bool
same_place p q = eqb p.row.0 q.row.0 && eqb p.column.0 q.column.0

-- a place is one of a list
unfoldable pub is_among : Place → List Place → Bool
is_among p [] = false
is_among p (q ∷ qs) = same_place p q || is_among p qs

-- how many distinct places there are: one that comes again counts once
unfoldable pub distinct : List Place → ℕ
distinct [] = 0
distinct (p ∷ ps) = cond (is_among p ps) 0 1 + distinct ps
