-- What a line changes that leaves the sheet and its map as they were. Assumes nothing.
use Rattle.std.proofs.Common.{◌≡◌, refl, List, [], ℕ, arith}
use Rattle.mesh.specs.declared.Refusal.{Refusal}
use Rattle.mesh.specs.Numbers.{number}
use Rattle.mesh.proofs.Bools.{true-false}
use Rattle.mesh.proofs.Numbers.{number-few}
use Rattle.sheet_prints.specs.Prints.{line, no_word}
use Rattle.theory_sheet.specs.Sheet.{Step, ending, saying, bad_line}
use Rattle.sheet_state.specs.declared.Sheet.{Sheet}
use Rattle.sheet_state.specs.declared.Change.{Change}
use Rattle.sheet_state.specs.declared.Says.TheVariants.{BadLine, Refusal as Refuses, Nothing}
use Rattle.sheet_state.specs.Keeping.{state_of, Ready, unchanged, Changes}

module _ {s : Sheet} {map : List ℕ} {step : ℕ → Step} {x : Change} where
  pub bad : x ≡ unchanged s BadLine → ((n : ℕ) → step n ≡ bad_line n (state_of s map)) → Changes step x map
  bad q e = rw q (record { steps = e; few = omega arith; ready = λ f. true-false refl f })

  pub refused : (why : Refusal) → x ≡ unchanged s (Refuses why) → ((n : ℕ) → step n ≡ ending (line no_word (number why)) (state_of s map)) → Changes step x map
  refused why q e = rw q (record { steps = e; few = omega (arith, number-few why); ready = λ f. true-false refl f })

  pub said : Ready s map → x ≡ unchanged s Nothing → ((n : ℕ) → step n ≡ saying [] (state_of s map)) → Changes step x map
  said r q e = rw q (record { steps = e; few = omega arith; ready = λ f. r })
