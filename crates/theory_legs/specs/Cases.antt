-- Worked routes with their files, and what is refused, by computation. Assumes nothing.
use Rattle.std.specs.Prelude.{Bool, true, ◌&&◌, List, [], ◌∷◌, ℕ, T, eqb, replicate}
use Prim.Native.String.{String}
use Rattle.mesh.specs.Headings.{letters, same, named, last_is, direction}
use Rattle.mesh.specs.Tests.{first}
use Rattle.mesh.specs.Rounds.{same_list}
use Rattle.mesh.specs.Maps.{some}
use Rattle.mesh.specs.Cases.{bytes}
use Rattle.theory_legs.specs.Groups.{groups, number_bytes, and_then, above, read_groups, not_large, read_number}
use Rattle.theory_legs.specs.Legs.{hop_before, legs, hops}
use Rattle.theory_legs.specs.Files.{leg_number, leg_of, leg_bytes, file, leg_before, read_legs, all_read, read_file}
use Rattle.theory_legs.specs.Converting.{refusal, is_other, some_other, hop_by, hops_named, some_long, too_long, letter_tests, file_of, fault_tests, file_tests, legs_in, letters_of}

pub data Case : Type 0 where
  -- a number, and its groups
  grouped : ℕ → List ℕ → Case
  -- the letters of a route, and its file, either way
  file-is : List ℕ → List ℕ → Case
  -- letters, how long the output is, and the refusal, or 0
  letters-refused : String → ℕ → ℕ → Case
  -- a file, how long the output is, and the refusal, or 0
  file-refused : List ℕ → ℕ → ℕ → Case

unfoldable pub holds : Case → Bool
holds (grouped n gs) = same_list (number_bytes n) gs
holds (file-is xs ys) =
    eqb (first (letter_tests xs)) 0 && same_list (file_of xs) ys && eqb (first (file_tests ys)) 0 && same_list (letters_of ys) xs
holds (letters-refused text room expect) =
    let xs = bytes text in
    eqb (refusal (letter_tests xs) (file_of xs) (replicate room 0)) expect
holds (file-refused ys room expect) = eqb (refusal (file_tests ys) (letters_of ys) (replicate room 0)) expect

unfoldable pub all_hold : List Case → Bool
all_hold [] = true
all_hold (x ∷ xs) = holds x && all_hold xs

-- Both ends of one, two and three groups; the empty route, that of map A, a reversal, and a leg at either end of one byte. Then what is refused: no
-- letter, no room; cut short in the number of legs, before a leg and in one; a needless group in second and in third place, a third group
-- with its top bit set and nothing after it, and numbers too large; a leg in its forerunner's direction, before a cut and before bytes left
-- over; bytes left over; no room.
unfoldable pub worked : List Case
worked =
    grouped 127 (127 ∷ []) ∷
    grouped 128 (128 ∷ 1 ∷ []) ∷
    grouped 16383 (255 ∷ 127 ∷ []) ∷
    grouped 16384 (128 ∷ 128 ∷ 1 ∷ []) ∷
    grouped 65535 (255 ∷ 255 ∷ 3 ∷ []) ∷
    file-is [] (0 ∷ []) ∷
    file-is (bytes "WNWWNNNNEEE") (5 ∷ 2 ∷ 1 ∷ 6 ∷ 13 ∷ 8 ∷ []) ∷
    file-is (bytes "EW") (2 ∷ 0 ∷ 2 ∷ []) ∷
    file-is (replicate 32 83) (1 ∷ 127 ∷ []) ∷
    file-is (replicate 33 69) (1 ∷ 128 ∷ 1 ∷ []) ∷
    letters-refused "ENn" 0 11 ∷
    letters-refused "EN" 2 10 ∷
    letters-refused "EN" 3 0 ∷
    letters-refused "" 0 10 ∷
    file-refused [] 0 19 ∷
    file-refused (129 ∷ []) 0 19 ∷
    file-refused (2 ∷ 0 ∷ []) 1 19 ∷
    file-refused (1 ∷ 128 ∷ 128 ∷ []) 1 19 ∷
    file-refused (1 ∷ 128 ∷ 0 ∷ []) 1 20 ∷
    file-refused (1 ∷ 128 ∷ 128 ∷ 0 ∷ []) 1 20 ∷
    file-refused (129 ∷ 128 ∷ 128 ∷ []) 1 20 ∷
    file-refused (128 ∷ 128 ∷ 4 ∷ []) 1 20 ∷
    file-refused (3 ∷ 1 ∷ 5 ∷ 128 ∷ []) 9 21 ∷
    file-refused (2 ∷ 1 ∷ 5 ∷ 0 ∷ []) 9 21 ∷
    file-refused (1 ∷ 1 ∷ 5 ∷ []) 1 22 ∷
    file-refused (1 ∷ 5 ∷ []) 1 10 ∷
    file-refused (1 ∷ 5 ∷ []) 2 0 ∷
    []

pub worked-hold : T (all_hold worked)
unfolding worked all_hold holds letters same named last_is direction first same_list some bytes groups number_bytes and_then above read_groups
    not_large read_number hop_before legs hops leg_number leg_of leg_bytes file leg_before read_legs all_read read_file refusal is_other
    some_other hop_by hops_named some_long too_long letter_tests file_of fault_tests file_tests legs_in letters_of
worked-hold = tt
