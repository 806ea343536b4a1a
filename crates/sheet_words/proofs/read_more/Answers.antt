-- A digit more leaves one fewer to read, and what is read from there is what is read from the start. Assumes nothing.
use Rattle.std.proofs.Common.{◌≡◌, ◌<◌, ◌∙◌, Some, arith, rules}
use Rattle.std.proofs.lemmas.Grind.{common_steps}
use Rattle.sheet_words.specs.Words.{more}
use Rattle.sheet_words.specs.Reading.{digit}
use Rattle.sheet_words.proofs.Digits.{more-none, more-digit, room_small, room-more}
use Rattle.sheet_words.proofs.read_more.Goals as goal

pub returns-in_default : goal.returns-in_default
returns-in_default c = grind (arith, common_steps, more-none)

pub overflow_mul-value : goal.overflow_mul-value
overflow_mul-value c = omega (arith, room_small _ _ c.loop.invariant.room)

pub overflow_add-value : goal.overflow_add-value
overflow_add-value c = grind (arith, common_steps, room_small _ _ c.loop.invariant.room)

pub loop-preserved : goal.loop-preserved
loop-preserved c =
    let small : c.in-Some.digit < 10 = grind (arith, common_steps) in
    let one : digit c.loop.rest.now ≡ Some (c.in-Some.digit, c.in-Some.next.now) = grind (arith, common_steps) in
    record {
      room = room-more _ _ _ _ (omega arith) c.loop.invariant.room small;
      rest = more-digit _ _ _ _ _ _ (omega arith) one ∙ c.loop.invariant.rest;
    }

pub returns : goal.returns
unfolding more
returns c = search rules
