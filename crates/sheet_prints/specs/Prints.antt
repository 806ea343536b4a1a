-- The lines that are printed (document 01, "The sheet program"): `blocks B`, `no NUMBER`, `line L`, `ok HOPS LETTERS`. Assumes nothing.
use Rattle.std.specs.Prelude.{cond, List, [], ◌∷◌, ◌++◌, ℕ, zero, suc, ◌+◌, ◌/◌, ◌%◌, ltb, length}

-- the digits of n, at most k, before what follows
unfoldable pub digits : ℕ → ℕ → List ℕ → List ℕ
digits zero n rest = rest
digits (suc k) n rest =
    let more = digits k (n / 10) ((48 + n % 10) ∷ rest) in
    cond (ltb n 10) ((48 + n) ∷ rest) more

-- a number in decimal, without leading zeros
unfoldable pub decimal : ℕ → List ℕ
decimal n = digits (suc n) n []

-- a word with its space, a number, a newline
unfoldable pub line : List ℕ → ℕ → List ℕ
line word n = word ++ (decimal n ++ (10 ∷ []))

abbrev pub blocks_word : List ℕ
blocks_word = 98 ∷ 108 ∷ 111 ∷ 99 ∷ 107 ∷ 115 ∷ 32 ∷ []

abbrev pub no_word : List ℕ
no_word = 110 ∷ 111 ∷ 32 ∷ []

abbrev pub line_word : List ℕ
line_word = 108 ∷ 105 ∷ 110 ∷ 101 ∷ 32 ∷ []

abbrev pub ok_word : List ℕ
ok_word = 111 ∷ 107 ∷ 32 ∷ []

-- the letters after a space; with 0 hops nothing
unfoldable pub spaced_letters : List ℕ → List ℕ
spaced_letters [] = []
spaced_letters (x ∷ xs) = 32 ∷ x ∷ xs

-- ok HOPS LETTERS
unfoldable pub ok_line : List ℕ → List ℕ
ok_line letters = ok_word ++ (decimal (length letters) ++ (spaced_letters letters ++ (10 ∷ [])))
