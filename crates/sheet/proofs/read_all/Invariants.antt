use Rattle.theory_sheet.proofs.Progress.{most}
use Rattle.sheet_bytes.specs.Reading.{reader_of}
use Rattle.sheet.proofs.Going.{Going}
use Rattle.sheet.proofs.read_all.Given as goal

abbrev pub invariant-loop-read : goal.invariant-loop-read
invariant-loop-read g l =
    Going (g.R.Read.remaining l.initial.from) (g.R.Read.remaining l.from) (g.W.Write.contents l.initial.to) (g.W.Write.contents l.to) l.map l.reader

abbrev pub decreases-loop-read : goal.decreases-loop-read
decreases-loop-read g l = most (reader_of l.reader l.map)
