-- A refusal of an answer is the refusal that it was made of. Assumes nothing.
use Rattle.std.proofs.Common.{ap, arith}
use Rattle.std.proofs.lemmas.Grind.{common_steps}
use Rattle.mesh.specs.Numbers.{answer_refusal, network_read}
use Rattle.mesh.proofs.Numbers.{answer-refusal}
use Rattle.c_batch.proofs.pinduguil_route_batch.Goals as goal

pub returns : goal.returns
unfolding network_read
returns c =
    record {
      refuses = let e = rw answer-refusal at (ap answer_refusal c.route_batch-answer.ensures.returns) in grind (arith, common_steps, e);
      enters = grind (arith, common_steps);
      writes = grind (arith, common_steps);
      counts = grind (arith, common_steps);
    }
