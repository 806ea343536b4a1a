-- The promise of either operation, told in numbers. Assumes nothing.
use Rattle.std.proofs.Common.{◌≡◌, ℕ, List, Result, ap, ◌∙◌}
use Rattle.mesh.specs.Tests.{Test}
use Rattle.mesh.specs.Numbers.{answer_refusal}
use Rattle.mesh.proofs.Numbers.{answer-refusal}
use Rattle.numbers.specs.Returned.{put_returned}
use Rattle.theory_legs.specs.declared.LegRefusal.{LegRefusal}
use Rattle.theory_legs.specs.Converting.{converted_answer, Converts}
use Rattle.c_legs.specs.Numbers.{ConvertsInNumbers}

pub converts : {tests : List Test} {new out count out' count' : List ℕ} {x : ℕ} {r : Result ℕ LegRefusal} → Converts tests new out r out' →
    count' ≡ put_returned (converted_answer r) count → x ≡ answer_refusal (converted_answer r) → ConvertsInNumbers tests new out count x out' count'
converts {count = count} does counts refuses =
    record {
      refuses = refuses ∙ ap answer_refusal does.answers ∙ answer-refusal _ _;
      writes = does.writes;
      counts = counts ∙ ap (λ a. put_returned a count) does.answers;
    }
