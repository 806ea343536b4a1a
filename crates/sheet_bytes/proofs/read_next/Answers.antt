-- A whole line where nothing is held, else a byte. Assumes nothing.
use Rattle.std.proofs.Common.{sym, ◌∙◌}
use Rattle.sheet_bytes.proofs.Lines.{found-whole, whole-line, one-byte}
use Rattle.sheet_bytes.proofs.read_next.Goals as goal

pub returns-in-Some : goal.returns-in-Some
returns-in-Some c =
    whole-line _ (sym c.len.ensures ∙ c.if-len-eq0.true) (found-whole _ _ (sym c.find_newline.ensures ∙ c.in-Some.is))
    c.read_line.ensures

pub returns : goal.returns
returns c = one-byte _ c.requires c.read_byte.ensures
