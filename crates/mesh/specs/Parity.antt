-- Which columns permit which turns, on either network (document 01, "Turns"; document 02, E6: rules 1' and 2' of document 001).
-- No other definition tells odd and even columns apart. Assumes nothing.
use Rattle.std.specs.Prelude.{Bool, ℕ, ◌-◌, ◌%◌, eqb}
use Rattle.mesh.specs.declared.Network.{Network}
use Rattle.mesh.specs.declared.Network.TheVariants.{First, Second}

-- the column's remainder by 2; on the second network odd and even are exchanged
abbrev pub remainder : Network → ℕ → ℕ
remainder First c = c % 2
remainder Second c = 1 - c % 2

-- the remainder by which NW and SW are permitted; by the other EN and ES are
abbrev pub permits_west : ℕ → Bool
permits_west p = eqb p 0

-- the columns in which NW and SW are permitted: the even ones, on the second network the odd ones; EN and ES are permitted in the others
unfoldable pub turns_west : Network → ℕ → Bool
turns_west n c = permits_west (remainder n c)
