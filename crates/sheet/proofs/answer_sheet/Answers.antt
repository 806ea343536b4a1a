-- What came and the end are the sheet. Assumes nothing.
use Rattle.sheet.proofs.Ending.{runs}
use Rattle.sheet.proofs.answer_sheet.Goals as goal

pub returns : goal.returns
returns g c = λ some. runs c.read_all-last.ensures.answers c.end_sheet.ensures some
