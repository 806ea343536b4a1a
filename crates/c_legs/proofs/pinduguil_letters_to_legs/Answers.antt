-- The operation keeps its promise; its answer fixes the number that is returned and the one that is put first. Assumes nothing.
use Rattle.c_legs.proofs.Numbers.{converts}
use Rattle.c_legs.proofs.pinduguil_letters_to_legs.Goals as goal

pub returns : goal.returns
returns c = converts c.letters_to_legs-answer.ensures c.put_written.ensures c.converted_code.ensures
