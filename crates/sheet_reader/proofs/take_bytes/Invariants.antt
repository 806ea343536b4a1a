use Rattle.std.proofs.Common.{◌-◌, length}
use Rattle.sheet_bytes.specs.Reading.{reader_of}
use Rattle.sheet_reader.proofs.Taking.{Taking}
use Rattle.sheet_reader.proofs.take_bytes.Given as goal

abbrev pub invariant-loop-letters : goal.invariant-loop-letters
invariant-loop-letters l =
    Taking (reader_of l.initial.reader l.initial.map) l.bytes l.initial.map l.initial.out l.room l.map l.out l.letters l.reader l.at l.taken

abbrev pub decreases-loop-letters : goal.decreases-loop-letters
decreases-loop-letters l = length l.bytes - l.taken
