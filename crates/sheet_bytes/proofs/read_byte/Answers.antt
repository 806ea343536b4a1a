-- The definition asks of a byte whether it is a newline, and else whether there is room to hold it. Assumes nothing.
use Rattle.std.proofs.Common.{ap, ◌∙◌}
use Rattle.sheet_words.specs.Words.{command_at}
use Rattle.sheet_bytes.proofs.Lines.{held-line, too_long, one_more}
use Rattle.sheet_bytes.proofs.read_byte.Goals as goal

pub returns-then-byte-eq10 : goal.returns-then-byte-eq10
returns-then-byte-eq10 c = held-line _ _ _ c.if-byte-eq10.true (c.read_line.ensures ∙ ap (command_at c.args.number) c.bytes.ensures)

pub returns-then-len-ge20 : goal.returns-then-len-ge20
returns-then-len-ge20 c = too_long _ _ _ c.if-byte-eq10.false c.len.ensures c.if-len-ge20.true

pub returns-else-len-ge20 : goal.returns-else-len-ge20
returns-else-len-ge20 c = one_more _ _ _ c.if-byte-eq10.false c.len.ensures c.if-len-ge20.false c.push.ensures
