use Rattle.std.proofs.Common.{◌≡◌, ◌+◌, ◌-◌, ◌*◌, ◌^◌, ◌≤◌}
use Rattle.sheet_words.specs.Words.{more}
use Rattle.sheet_words.proofs.read_more.Given as goal

abbrev pub invariant-loop : goal.invariant-loop
invariant-loop l = record {
  room : (l.value + 1) * 10 ^ (l.left - l.counter) ≤ 1000;
  rest : more (l.left - l.counter) l.value l.rest ≡ more l.left l.n l.text;
}
