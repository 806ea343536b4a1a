-- The number of legs, then the legs. Assumes nothing.
use Rattle.to_legs.proofs.Writing.{count_fits, count-written, all-written}
use Rattle.to_legs.proofs.write_file.Goals as goal

pub put_number-first-requires : goal.put_number-first-requires
put_number-first-requires c = count_fits c.requires

pub write_legs-requires : goal.write_legs-requires
write_legs-requires c = count-written c.requires c.put_number-first.ensures

pub returns : goal.returns
returns c = all-written c.requires c.put_number-first.ensures c.write_legs.ensures
