-- What is found of the letters is what the operation answers. Assumes nothing.
use Rattle.std.specs.Prelude.{Ok, Err}
use mathlib.Core.Path.{◌≡◌, ◌∙◌}
use mathlib.Core.Bool.{true, false}
use mathlib.Core.List.{List, [], ◌∷◌}
use Prim.Native.Nat.{ℕ, ◌+◌, ◌*◌, ◌≤◌, ◌<◌}
use native.Mathlib.Omega.{arith}
use borrow.Author.Tests.{ltb-false}
use Rattle.mesh.proofs.Bools.{or-none}
use lib.ListN.{length, length-append}
use Rattle.mesh.specs.Tests.{first}
use Rattle.buffers.specs.Over.{over}
use Rattle.buffers.proofs.Over.{over-all}
use Rattle.theory_legs.specs.declared.LegRefusal.TheVariants.{Room, NoLetter, TooLong}
use Rattle.theory_legs.specs.Groups.{number_bytes}
use Rattle.theory_legs.specs.Legs.{Leg}
use Rattle.theory_legs.specs.Files.{leg_number, leg_bytes, file}
use Rattle.theory_legs.specs.Converting.{refusal, some_other, some_long, too_long, legs_of, letter_tests, file_of, LettersToLegs}
use Rattle.theory_legs.proofs.Groups.{size_few}
use Rattle.theory_legs.proofs.Refusals.{letters-numbered, fits-accepted}
use Rattle.theory_legs.proofs.Promises.{refuses-as, refuses-room, wrote_as}
use Rattle.to_legs.specs.declared.Measured.{Measured}
use Rattle.to_legs.specs.Measured.{Measures, FileWritable}

bytes-few : (ls : List Leg) → length (leg_bytes ls) ≤ 3 * length ls
unfolding leg_bytes
bytes-few [] = omega arith
bytes-few (l ∷ ls) = omega (arith, length-append (number_bytes (leg_number l)) (leg_bytes ls), size_few (leg_number l), bytes-few ls)

pub legs-few : {xs : List ℕ} {m : Measured} → Measures xs m → m.legs ≤ 65535
unfolding too_long
legs-few {xs} t = omega (arith, t.counts, ltb-false 65535 (length (legs_of xs)) (or-none (some_long (legs_of xs)) _ t.fits).1)

pub size_small : {xs : List ℕ} {m : Measured} → Measures xs m → {size : ℕ} → size ≡ length (number_bytes m.legs) → size + m.bytes ≤ 3 + 3 * 65535
size_small {xs} {m} t s = omega (arith, bytes-few (legs_of xs), legs-few t, t.counts, t.sizes, size_few m.legs)

module _ (xs out : List ℕ) where
  pub answers-other : some_other xs ≡ true → LettersToLegs xs out (Err NoLetter) out
  unfolding refusal letter_tests first
  answers-other e = refuses-as NoLetter (rw e)

  module _ (no_other : some_other xs ≡ false) where
    pub answers-long : too_long (legs_of xs) ≡ true → LettersToLegs xs out (Err TooLong) out
    unfolding refusal letter_tests first
    answers-long e = refuses-as TooLong (rw (no_other, e))

    module _ {m : Measured} (t : Measures xs m) {size : ℕ} (s : size ≡ length (number_bytes m.legs)) where
      sized : length (file_of xs) ≡ size + m.bytes
      unfolding file_of file
      sized = length-append (number_bytes (length (legs_of xs))) (leg_bytes (legs_of xs)) ∙ rw (t.counts, t.sizes, s)

      pub answers-room : length out < size + m.bytes → LettersToLegs xs out (Err Room) out
      answers-room = refuses-room (letters-numbered xs) (fits-accepted xs no_other t.fits) sized

      module _ (room : size + m.bytes ≤ length out) where
        pub file-writable : FileWritable xs m.legs out
        file-writable = record { no_other = no_other; fits = t.fits; counted = t.counts; room = rw sized room }

        pub answers-wrote : {after : List ℕ} → after ≡ over out 0 (file_of xs) → LettersToLegs xs out (Ok (size + m.bytes)) after
        answers-wrote e =
            wrote_as (letters-numbered xs) (fits-accepted xs no_other t.fits) sized room (e ∙ over-all out (file_of xs) (rw sized room))
