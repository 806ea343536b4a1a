-- The four ways of a hop, their letters and their numbers (document 01, "Mesh and letters"), their codes (document 02, E3). Assumes nothing.
use Rattle.std.specs.Prelude.{Bool, false, cond, List, [], ◌∷◌, ℕ, zero, suc, ◌+◌, ◌-◌, eqb, Option, Some, None}
pub use Rattle.mesh.specs.declared.Heading.{Heading}
pub use Rattle.mesh.specs.declared.Heading.TheVariants.{East as E, North as N, South as S, West as W}

-- the next node that way: east raises the column, north raises the row
unfoldable pub row_after : Heading → ℕ → ℕ
row_after E r = r
row_after N r = r + 1
row_after S r = r - 1
row_after W r = r

unfoldable pub column_after : Heading → ℕ → ℕ
column_after E c = c + 1
column_after N c = c
column_after S c = c
column_after W c = c - 1

unfoldable pub opposite : Heading → Heading
opposite E = W
opposite N = S
opposite S = N
opposite W = E

-- the letters E, N, S, W as bytes
abbrev pub letter : Heading → ℕ
letter E = 69
letter N = 78
letter S = 83
letter W = 87

-- a route as a string of letters
unfoldable pub letters : List Heading → List ℕ
letters [] = []
letters (h ∷ hs) = letter h ∷ letters hs

-- the same hop: the same letter
unfoldable pub same : Heading → Heading → Bool
same g h = eqb (letter g) (letter h)

-- the last hop was that way
unfoldable pub last_is : Option Heading → Heading → Bool
last_is None h = false
last_is (Some g) h = same g h

-- the hop that a byte names
unfoldable pub named : ℕ → Option Heading
named x =
    cond (eqb x (letter E)) (Some E)
    (cond (eqb x (letter N)) (Some N) (cond (eqb x (letter S)) (Some S) (cond (eqb x (letter W)) (Some W) None)))

-- last hops in numbers: 0 none, 1 E, 2 N, 3 S, 4 W
abbrev pub heading_number : Heading → ℕ
heading_number E = 1
heading_number N = 2
heading_number S = 3
heading_number W = 4

abbrev pub last_number : Option Heading → ℕ
last_number None = 0
last_number (Some h) = heading_number h

-- the last hop of that number
unfoldable pub last_of : ℕ → Option Heading
last_of n =
    cond (eqb n 1) (Some E) (cond (eqb n 2) (Some N) (cond (eqb n 3) (Some S) (cond (eqb n 4) (Some W) None)))

-- the code of a direction: 0 E, 1 N, 2 W, 3 S
abbrev pub code : Heading → ℕ
code E = 0
code N = 1
code W = 2
code S = 3

-- the direction of a code
unfoldable pub direction : ℕ → Heading
direction zero = E
direction (suc zero) = N
direction (suc (suc zero)) = W
direction (suc (suc (suc k))) = S
