-- Letters to legs and legs to letters (document 02, E3): what is answered and written. Assumes nothing.
use Rattle.std.specs.Prelude.{◌≡◌, Bool, true, false, ◌||◌, List, [], ◌∷◌, ◌++◌, ℕ, ltb, length, Option, Some, None, Result, Ok, Err}
use Rattle.mesh.specs.declared.Heading.{Heading}
use Rattle.mesh.specs.Headings.{letters, named}
use Rattle.mesh.specs.Tests.{Test, ◌gives◌, first}
use Rattle.mesh.specs.Numbers.{Answer, refused, returned, answer, written}
use Rattle.mesh.specs.Maps.{some}
use Rattle.theory_legs.specs.declared.LegRefusal.{LegRefusal}
use Rattle.theory_legs.specs.declared.LegRefusal.TheVariants.{Room, NoLetter, CutShort, BadNumber, SameDirection, LeftOver, TooLong}
use Rattle.theory_legs.specs.Groups.{Found, fault, found}
use Rattle.theory_legs.specs.Legs.{Leg, legs, hops}
use Rattle.theory_legs.specs.Files.{file, read_file}

-- Either way

-- the number of each refusal
abbrev pub leg_refusal_number : LegRefusal → ℕ
leg_refusal_number Room = 10
leg_refusal_number NoLetter = 11
leg_refusal_number CutShort = 19
leg_refusal_number BadNumber = 20
leg_refusal_number SameDirection = 21
leg_refusal_number LeftOver = 22
leg_refusal_number TooLong = 23

-- what it answers, in the paper's terms
abbrev pub converted_answer : Result ℕ LegRefusal → Answer
converted_answer (Ok n) = returned n
converted_answer (Err r) = refused (leg_refusal_number r)

-- the tests of what is given; then 10, what is to be written is longer than the output
unfoldable pub refusal : List Test → List ℕ → List ℕ → ℕ
refusal tests new out = first (tests ++ (ltb (length out) (length new) gives 10 ∷ []))

-- it writes the new bytes, and returns their number
pub record Converts (tests : List Test) (new out : List ℕ) (r : Result ℕ LegRefusal) (after : List ℕ) : Type 0 where
  pub answers : converted_answer r ≡ answer (refusal tests new out) (length new)
  pub writes : after ≡ written (refusal tests new out) new out

-- Letters to legs

-- what names no hop
unfoldable pub is_other : Option Heading → Bool
is_other (Some h) = false
is_other None = true

-- a byte, at any index, that is not one of E, N, S, W
abbrev pub no_letter : ℕ → ℕ → Bool
no_letter i x = is_other (named x)

-- 11: some letter is not one of E, N, S, W
unfoldable pub some_other : List ℕ → Bool
some_other xs = some no_letter 0 xs

-- the hops that letters name, up to the first that names none
unfoldable pub hop_by : Option Heading → List Heading → List Heading
hop_by (Some h) hs = h ∷ hs
hop_by None hs = []

unfoldable pub hops_named : List ℕ → List Heading
hops_named [] = []
hops_named (x ∷ xs) = hop_by (named x) (hops_named xs)

abbrev pub legs_of : List ℕ → List Leg
legs_of xs = legs (hops_named xs)

-- 23: a leg over 16,384, or over 65,535 legs
unfoldable pub some_long : List Leg → Bool
some_long [] = false
some_long (l ∷ ls) = ltb 16384 l.length || some_long ls

unfoldable pub too_long : List Leg → Bool
too_long ls = some_long ls || ltb 65535 (length ls)

unfoldable pub letter_tests : List ℕ → List Test
letter_tests xs = some_other xs gives 11 ∷ too_long (legs_of xs) gives 23 ∷ []

-- the file of a route
unfoldable pub file_of : List ℕ → List ℕ
file_of xs = file (legs_of xs)

-- its promise
abbrev pub LettersToLegs : List ℕ → List ℕ → Result ℕ LegRefusal → List ℕ → Type 0
LettersToLegs xs = Converts (letter_tests xs) (file_of xs)

-- Legs to letters

-- 19 to 22: the first fault that reading meets
unfoldable pub fault_tests : Found (List Leg) → List Test
fault_tests (fault k) = true gives k ∷ []
fault_tests (found ls rest) = []

unfoldable pub file_tests : List ℕ → List Test
file_tests ys = fault_tests (read_file ys)

-- the legs found; none where there is a fault
unfoldable pub legs_in : Found (List Leg) → List Leg
legs_in (fault k) = []
legs_in (found ls rest) = ls

-- the letters of a file
unfoldable pub letters_of : List ℕ → List ℕ
letters_of ys = letters (hops (legs_in (read_file ys)))

-- its promise
abbrev pub LegsToLetters : List ℕ → List ℕ → Result ℕ LegRefusal → List ℕ → Type 0
LegsToLetters ys = Converts (file_tests ys) (letters_of ys)
