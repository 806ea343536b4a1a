-- Examples, computed: numbers, and whole lines as the bytes that are printed. Assumes nothing.
use Rattle.std.specs.Prelude.{◌≡◌, refl, [], ◌∷◌}
use Rattle.sheet_prints.specs.Prints.{digits, decimal, line, blocks_word, no_word, line_word, spaced_letters, ok_line}

-- 0
pub zero-digit : decimal 0 ≡ 48 ∷ []
unfolding decimal digits
zero-digit = refl

-- 10
pub two_digits : decimal 10 ≡ 49 ∷ 48 ∷ []
unfolding decimal digits
two_digits = refl

-- 24704
pub five-digits : decimal 24704 ≡ 50 ∷ 52 ∷ 55 ∷ 48 ∷ 52 ∷ []
unfolding decimal digits
five-digits = refl

-- blocks 1
pub one_block : line blocks_word 1 ≡ 98 ∷ 108 ∷ 111 ∷ 99 ∷ 107 ∷ 115 ∷ 32 ∷ 49 ∷ 10 ∷ []
unfolding line decimal digits
one_block = refl

-- no 10
pub refused-10 : line no_word 10 ≡ 110 ∷ 111 ∷ 32 ∷ 49 ∷ 48 ∷ 10 ∷ []
unfolding line decimal digits
refused-10 = refl

-- line 65535
pub line-65535 : line line_word 65535 ≡ 108 ∷ 105 ∷ 110 ∷ 101 ∷ 32 ∷ 54 ∷ 53 ∷ 53 ∷ 51 ∷ 53 ∷ 10 ∷ []
unfolding line decimal digits
line-65535 = refl

-- ok 0
pub no-hops : ok_line [] ≡ 111 ∷ 107 ∷ 32 ∷ 48 ∷ 10 ∷ []
unfolding ok_line decimal digits spaced_letters
no-hops = refl

-- ok 3 ENW
pub three-hops : ok_line (69 ∷ 78 ∷ 87 ∷ []) ≡ 111 ∷ 107 ∷ 32 ∷ 51 ∷ 32 ∷ 69 ∷ 78 ∷ 87 ∷ 10 ∷ []
unfolding ok_line decimal digits spaced_letters
three-hops = refl
