-- A line is answered, and the next one begins. Assumes nothing.
use Rattle.std.proofs.Common.{arith}
use Rattle.sheet_reader.proofs.Answering.{line-answered, byte-held}
use Rattle.sheet_reader.proofs.answer_read.Goals as goal

pub answer_line-answered-requires : goal.answer_line-answered-requires
answer_line-answered-requires c =
    let (ready, few, _, letters, room) = c.requires in
    (ready, omega arith, letters, room)

pub returns-in-Line : goal.returns-in-Line
returns-in-Line c = line-answered _ _ _ c.in-Line.is c.next_line.ensures c.answer_line-answered.ensures

pub returns-in-Part : goal.returns-in-Part
returns-in-Part c = byte-held _ _ _ c.in-Part.is c.requires.0 c.requires.2 (omega arith)
