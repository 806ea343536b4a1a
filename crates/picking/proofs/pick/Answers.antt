-- The answer on both buffers says which part is handed back, and it is there. Assumes nothing.
use Rattle.std.proofs.Common.{sym}
use lib.Seq.{length-take-le}
use Rattle.picking.proofs.Picked.{part-within, route-handed, none-handed}
use Rattle.picking.proofs.pick.Goals as goal

pub slice_bounds-result-end : goal.slice_bounds-result-end
slice_bounds-result-end c = sym (length-take-le _ _ (part-within c.route_both-picked.ensures c.in-Ok.is c.in-First.is))

pub slice_bounds-result-end-in-Second : goal.slice_bounds-result-end-in-Second
slice_bounds-result-end-in-Second c = sym (length-take-le _ _ (part-within c.route_both-picked.ensures c.in-Ok.is c.in-Second.is))

pub returns-in-First : goal.returns-in-First
returns-in-First c = route-handed c.route_both-picked.ensures c.refusal_of.ensures c.in-Ok.is c.in-First.is

pub returns-in-Second : goal.returns-in-Second
returns-in-Second c = route-handed c.route_both-picked.ensures c.refusal_of.ensures c.in-Ok.is c.in-Second.is

pub returns-in-Err : goal.returns-in-Err
returns-in-Err c = none-handed c.route_both-picked.ensures c.refusal_of.ensures c.in-Err.is
