-- A run that is over prints nothing, an unfinished line is bad, and else the sheet ends. Assumes nothing.
use Rattle.std.proofs.Common.{arith}
use Rattle.sheet_reader.proofs.Ending.{over-end, held-end, sheet-end}
use Rattle.sheet_reader.proofs.finish.Goals as goal

pub returns-then-reader : goal.returns-then-reader
returns-then-reader c = over-end c.args.reader _ c.if-reader.true (omega arith)

pub returns-then-len-gt0 : goal.returns-then-len-gt0
returns-then-len-gt0 c = held-end c.args.reader _ c.if-reader.false (omega (arith, c.len.ensures)) c.put_bad_line.ensures

pub returns-else-len-gt0 : goal.returns-else-len-gt0
returns-else-len-gt0 c = sheet-end c.args.reader _ c.if-reader.false (omega (arith, c.len.ensures)) c.end_sheet.ensures
