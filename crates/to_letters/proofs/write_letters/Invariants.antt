use Rattle.std.proofs.Common.{◌-◌}
use Rattle.to_letters.proofs.Writing.{Writing}
use Rattle.to_letters.proofs.write_letters.Given as goal

abbrev pub invariant-loop : goal.invariant-loop
invariant-loop l = Writing l.file l.first l.legs l.initial.out l.at l.to (l.legs - l.counter) l.out
