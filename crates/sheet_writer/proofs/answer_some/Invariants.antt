use Rattle.std.proofs.Common.{◌-◌, length}
use Rattle.sheet_bytes.specs.Reading.{reader_of}
use Rattle.sheet_writer.proofs.Using.{Using}
use Rattle.sheet_writer.proofs.answer_some.Given as goal

abbrev pub invariant-loop-used : goal.invariant-loop-used
invariant-loop-used g l =
    Using (reader_of l.initial.reader l.initial.map) l.bytes (g.W.Write.contents l.initial.to) (g.W.Write.contents l.to) l.map l.reader l.used

abbrev pub decreases-loop-used : goal.decreases-loop-used
decreases-loop-used g l = length l.bytes - l.used
