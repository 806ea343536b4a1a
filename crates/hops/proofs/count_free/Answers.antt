-- All n nodes that way are on the mesh. Assumes nothing.
use Rattle.std.proofs.Common.{◌+◌, arith}
use Rattle.hops.proofs.Ways.{reaches-on}
use Rattle.hops.proofs.count_free.Goals as goal

pub is_bad_node-requires : goal.is_bad_node-requires
is_bad_node-requires c =
    let on = reaches-on _ c.requires (c.loop-k.k + 1) (omega arith) in
    rw c.place_by.ensures (record { row = on.0; column = on.1 })
