use Prim.Native.Nat.{◌-◌}
use Rattle.to_legs.proofs.Writing.{Writing}
use Rattle.to_legs.proofs.write_legs.Given as goal

abbrev pub invariant-loop-i : goal.invariant-loop-i
invariant-loop-i l = Writing l.letters l.n l.first l.initial.out l.i l.at l.out

abbrev pub decreases-loop-i : goal.decreases-loop-i
decreases-loop-i l = l.n - l.i
