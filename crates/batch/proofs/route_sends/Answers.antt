-- Each send in turn, with what the ones before it left free. Assumes nothing.
use Rattle.std.proofs.Common.{arith}
use Rattle.theory_batch.proofs.Sends.{sends-length, even-whole}
use Rattle.batch.proofs.Sending.{coded, sending-more, sending-all}
use Rattle.batch.proofs.route_sends.Goals as goal

pub bounds-answers-i : goal.bounds-answers-i
bounds-answers-i c = omega (arith, sends-length c.args.sends.now)

pub loop-i-preserved : goal.loop-i-preserved
loop-i-preserved c =
    sending-more c.loop-i.invariant (omega arith) c.send_at.ensures c.route_send-r.ensures
    (coded _ c.answer_code.ensures) c.wrote-at.ensures

pub returns : goal.returns
returns c = sending-all c.loop-i.invariant (omega (arith, even-whole c.args.sends.now c.requires.0)) c.requires.1
