-- The lines of a sheet (document 01, "The sheet program"): `mesh COLUMNS ROWS`, `fault ROW COLUMN`, `send ROW COLUMN ROW COLUMN`.
-- Numbers have one to three digits, leading zeros allowed, single spaces between. A line is given without its newline. Assumes nothing.
use Rattle.std.specs.Prelude.{Bool, true, false, cond, ◌&&◌, List, [], ◌∷◌, ℕ, zero, suc, ◌+◌, ◌-◌, ◌*◌, leb, eqb, drop, Option, None, Some}
use Rattle.sheet_words.specs.declared.Command.{Command}
use Rattle.sheet_words.specs.declared.Command.TheVariants.{Mesh, Fault, Send}
use Rattle.mesh.specs.declared.Place.{Place}
use Rattle.mesh.specs.Mesh.{place}

-- 0 to 9
unfoldable pub is_digit : ℕ → Bool
is_digit x = leb 48 x && leb x 57

-- a number and what follows it, or none
abbrev pub Number : Type 0
Number = Option (ℕ × List ℕ)

-- up to k digits more, after digits of value n
unfoldable pub more : ℕ → ℕ → List ℕ → Number
more zero n xs = Some (n, xs)
more (suc k) n [] = Some (n, [])
more (suc k) n (x ∷ xs) = cond (is_digit x) (more k (10 * n + (x - 48)) xs) (Some (n, x ∷ xs))

-- one to three digits; what follows is then no digit, or the line is malformed for it
unfoldable pub number : List ℕ → Number
number [] = None
number (x ∷ xs) = cond (is_digit x) (more 2 (x - 48) xs) None

-- a single space and a number
unfoldable pub spaced : List ℕ → Number
spaced [] = None
spaced (x ∷ xs) = cond (eqb x 32) (number xs) None

-- two numbers and what follows them, or none
abbrev pub Two : Type 0
Two = Option ((ℕ × ℕ) × List ℕ)

unfoldable pub second : ℕ → Number → Two
second a None = None
second a (Some (b, xs)) = Some ((a, b), xs)

unfoldable pub first : Number → Two
first None = None
first (Some (a, xs)) = second a (spaced xs)

-- two spaced numbers
unfoldable pub two : List ℕ → Two
two xs = first (spaced xs)

-- a text begins with a word
unfoldable pub begins : List ℕ → List ℕ → Bool
begins [] xs = true
begins (w ∷ ws) [] = false
begins (w ∷ ws) (x ∷ xs) = eqb w x && begins ws xs

-- mesh, fault, send
abbrev pub mesh_word : List ℕ
mesh_word = 109 ∷ 101 ∷ 115 ∷ 104 ∷ []

abbrev pub fault_word : List ℕ
fault_word = 102 ∷ 97 ∷ 117 ∷ 108 ∷ 116 ∷ []

abbrev pub send_word : List ℕ
send_word = 115 ∷ 101 ∷ 110 ∷ 100 ∷ []

-- two numbers with nothing after them
unfoldable pub ended : Two → Option (ℕ × ℕ)
ended None = None
ended (Some (p, [])) = Some p
ended (Some (p, x ∷ xs)) = None

unfoldable pub sizes : Option (ℕ × ℕ) → Option Command
sizes None = None
sizes (Some (a, b)) = Some (Mesh a b)

unfoldable pub fault : Option (ℕ × ℕ) → Option Command
fault None = None
fault (Some (r, c)) = Some (Fault (place r c))

unfoldable pub send_to : Place → Option (ℕ × ℕ) → Option Command
send_to p None = None
send_to p (Some (r, c)) = Some (Send p (place r c))

-- two numbers, and two more after them
unfoldable pub send : Two → Option Command
send None = None
send (Some ((r, c), xs)) = send_to (place r c) (ended (two xs))

-- what a line says, or none where it is malformed
unfoldable pub command : List ℕ → Option Command
command xs =
    cond (begins mesh_word xs) (sizes (ended (two (drop 4 xs))))
    (cond (begins fault_word xs) (fault (ended (two (drop 5 xs))))
    (cond (begins send_word xs) (send (two (drop 4 xs))) None))

-- what line n of a sheet says: any after the 65,535th is malformed
unfoldable pub command_at : ℕ → List ℕ → Option Command
command_at n xs = cond (leb n 65535) (command xs) None
