use Rattle.sends.specs.Sends.{route_call_on}
use Rattle.batch.proofs.Sending.{Sending}
use Rattle.batch.proofs.route_sends.Given as goal

abbrev pub invariant-loop-i : goal.invariant-loop-i
invariant-loop-i l = Sending (route_call_on l.network l.marks) l.sends l.initial.answers l.initial.out l.i l.at l.answers l.out
