-- "Letters to legs" and "legs to letters" in numbers. Assumes nothing.
use Rattle.std.specs.Prelude.{◌≡◌, List, ℕ, length}
use Rattle.mesh.specs.Tests.{Test}
use Rattle.mesh.specs.Numbers.{answer, written}
use Rattle.numbers.specs.Returned.{put_returned}
use Rattle.theory_legs.specs.Converting.{refusal, letter_tests, file_of, file_tests, letters_of}

-- the promise of either: x is 0 or the refusal, and the number of the new bytes stands first in count
pub record ConvertsInNumbers (tests : List Test) (new out count : List ℕ) (x : ℕ) (out' count' : List ℕ) : Type 0 where
  pub refuses : x ≡ refusal tests new out
  pub writes : out' ≡ written (refusal tests new out) new out
  pub counts : count' ≡ put_returned (answer (refusal tests new out) (length new)) count

abbrev pub LettersToLegsInNumbers : List ℕ → List ℕ → List ℕ → ℕ → List ℕ → List ℕ → Type 0
LettersToLegsInNumbers xs = ConvertsInNumbers (letter_tests xs) (file_of xs)

abbrev pub LegsToLettersInNumbers : List ℕ → List ℕ → List ℕ → ℕ → List ℕ → List ℕ → Type 0
LegsToLettersInNumbers ys = ConvertsInNumbers (file_tests ys) (letters_of ys)
