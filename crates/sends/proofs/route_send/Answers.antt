-- Route on the part that is free. Assumes nothing.
use Rattle.sends.proofs.Free.{send-routed}
use Rattle.sends.proofs.route_send.Goals as goal

pub returns : goal.returns
returns c = send-routed _ _ _ _ _ c.requires c.route_marked.ensures c.route_marked.auto.out
