-- The route, for which there is room, and then its line. Assumes nothing.
use Rattle.std.proofs.Common.{sym, length-take-le}
use Rattle.sheet_lines.proofs.Sends.{sent-within, sent-fits, sent, not-sent}
use Rattle.sheet_lines.proofs.answer_send.Goals as goal

pub slice_bounds-put_ok-end : goal.slice_bounds-put_ok-end
slice_bounds-put_ok-end c =
    let (marks, _, room, _) = c.requires in
    sent-within _ _ _ marks _ room (rw c.nodes.ensures at c.route_marked.ensures) c.in-Ok.is

pub slice_bounds-put_ok-end-in-Ok : goal.slice_bounds-put_ok-end-in-Ok
slice_bounds-put_ok-end-in-Ok c =
    let (marks, _, room, _) = c.requires in
    sym (length-take-le _ _ (sent-within _ _ _ marks _ room (rw c.nodes.ensures at c.route_marked.ensures) c.in-Ok.is))

pub put_ok-requires : goal.put_ok-requires
put_ok-requires c =
    let (marks, _, room, fits) = c.requires in
    sent-fits _ _ _ marks _ room (rw c.nodes.ensures at c.route_marked.ensures) c.in-Ok.is _ _ fits

pub returns-in-Ok : goal.returns-in-Ok
returns-in-Ok c =
    let (marks, _, room, _) = c.requires in
    sent _ _ _ marks _ room (rw c.nodes.ensures at c.route_marked.ensures) c.in-Ok.is c.put_ok.ensures

pub returns-in-Err : goal.returns-in-Err
returns-in-Err c =
    let (marks, _, room, _) = c.requires in
    not-sent _ _ _ marks _ room (rw c.nodes.ensures at c.route_marked.ensures) c.in-Err.is c.from.ensures c.put_no.ensures
