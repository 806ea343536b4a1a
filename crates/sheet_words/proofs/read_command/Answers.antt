-- The words are tried in the order of the definition. Assumes nothing.
use Rattle.std.proofs.Common.{arith}
use Rattle.std.proofs.lemmas.Grind.{common_steps}
use Rattle.sheet_words.proofs.Begins.{command-mesh, command-fault, command-send, command-none}
use Rattle.sheet_words.proofs.read_command.Goals as goal

pub returns-in-Some : goal.returns-in-Some
returns-in-Some c = grind (arith, common_steps, command-mesh)

pub returns-in-Some-after : goal.returns-in-Some-after
returns-in-Some-after c = grind (arith, common_steps, command-fault)

pub returns-in_ok-after : goal.returns-in_ok-after
returns-in_ok-after c = grind (arith, common_steps, command-send)

pub returns-in_err-after : goal.returns-in_err-after
returns-in_err-after c = grind (arith, common_steps, command-none)
