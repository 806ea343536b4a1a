-- What is gone from `rest` is written. Assumes nothing.
use Rattle.std.proofs.Common.{◌++◌, take}
use Rattle.std.proofs.KnownBytes.{Appends-trans}
use Rattle.sheet_writer.proofs.Written.{moves_on}
use Rattle.sheet_writer.proofs.write_whole.Goals as goal

pub loop-rest-preserved : goal.loop-rest-preserved
loop-rest-preserved g c =
    let (done, split, appended) = c.loop-rest.invariant in
    let rest = c.loop-rest.rest.now in
    let n = c.in-Ok.n in
    (done ++ take n rest, moves_on _ done rest n split, Appends-trans _ _ _ _ _ appended c.in-Ok.ensures.bytes)
