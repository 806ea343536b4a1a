-- What the functions that read a line answer, in the terms of the definitions. Assumes nothing.
use Rattle.std.specs.Prelude.{List, [], ◌∷◌, ℕ, ◌-◌, cond, length, drop, Option, None, Some, option_map}
use Rattle.std.specs.Borrow.{Bor}
use Rattle.sheet_words.specs.Words.{is_digit, Number, begins}

-- what was read, and the text behind the reference
abbrev pub read_view : {A : Type 0} → Option (A × Bor (List ℕ)) → Option (A × List ℕ)
read_view r = option_map (λ p. (p.0, p.1.now)) r

-- what follows a word at the front
unfoldable pub after : List ℕ → List ℕ → Option (List ℕ)
after word xs = cond (begins word xs) (Some (drop (length word) xs)) None

-- one digit, and what follows it
unfoldable pub digit : List ℕ → Number
digit [] = None
digit (x ∷ xs) = cond (is_digit x) (Some (x - 48, xs)) None
