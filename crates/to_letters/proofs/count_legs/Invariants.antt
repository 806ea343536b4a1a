use Rattle.std.proofs.Common.{◌-◌}
use Rattle.to_letters.proofs.Counting.{Counting}
use Rattle.to_letters.proofs.count_legs.Given as goal

abbrev pub invariant-loop : goal.invariant-loop
invariant-loop l = Counting l.file l.first l.legs l.at l.total l.before (l.legs - l.counter)
