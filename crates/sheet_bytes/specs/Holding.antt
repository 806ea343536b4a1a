-- The bytes of a line that are held stand in an array of 20. Assumes nothing.
use Rattle.std.specs.Prelude.{List, ℕ, ◌++◌, ◌-◌, length, replicate}

-- bytes with zeros after them, up to 20
abbrev pub padded : List ℕ → List ℕ
padded xs = xs ++ replicate (20 - length xs) 0
