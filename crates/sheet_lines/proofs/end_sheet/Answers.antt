-- The end of a sheet prints what a send would before its answer. Assumes nothing.
use Rattle.sheet_lines.proofs.Answering.{end-told}
use Rattle.sheet_lines.proofs.end_sheet.Goals as goal

pub tell-requires : goal.tell-requires
tell-requires c = (c.open_sends-change.ensures.few, c.requires.1, c.requires.2)

pub returns : goal.returns
returns c = end-told _ _ _ c.open_sends-change.ensures c.tell.ensures
