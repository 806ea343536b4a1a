-- Judging on a marking already made. Assumes nothing.
use Rattle.std.specs.Prelude.{List, ℕ}
use Rattle.mesh.specs.declared.Network.{Network}
use Rattle.mesh.specs.declared.Place.{Place}
use Rattle.mesh.specs.Mesh.{Mesh}
use Rattle.mesh.specs.Tests.{first}
use Rattle.mesh.specs.Requests.{place_tests}
use Rattle.mesh.specs.Judging.{Verdict, unless, judge_from}

-- refusals 6 and 7, then the letters
unfoldable pub judgement_on : Network → Mesh → Place → Place → List ℕ → Verdict
judgement_on network w s d xs = unless (first (place_tests w s d)) 0 (judge_from network w s d xs)
