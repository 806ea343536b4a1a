-- Judge a hand-in (document 01, "The four operations"), on either network (document 02, E6). Assumes nothing.
use Rattle.std.specs.Prelude.{not, cond, List, [], ◌∷◌, ◌++◌, ℕ, zero, suc, Option, Some, None, Result, Ok, Err}
use Rattle.mesh.specs.declared.NotPassed.{NotPassed}
use Rattle.mesh.specs.declared.NotPassed.TheVariants.{Refused, Wrong}
use Rattle.mesh.specs.declared.Network.{Network}
use Rattle.mesh.specs.declared.Place.{Place}
use Rattle.mesh.specs.Mesh.{Mesh, mesh}
use Rattle.mesh.specs.Headings.{Heading, named}
use Rattle.mesh.specs.Tests.{Test, ◌gives◌, first}
use Rattle.mesh.specs.Numbers.{number, mistake_number}
use Rattle.mesh.specs.Rounds.{marked}
use Rattle.mesh.specs.Turns.{hop_breaks, is_rule1, is_rule2, turns_back}
use Rattle.mesh.specs.Rules.{Trip, trip_on, blocked}
use Rattle.mesh.specs.Hops.{At, fresh, moved, stays}
use Rattle.mesh.specs.Walk.{arrived}
use Rattle.mesh.specs.Maps.{map_tests}
use Rattle.mesh.specs.Requests.{place_tests}

-- 12 leaves the mesh; 13 reverses; 14 breaks rule 1, 17 breaks rule 2; 15 enters a block
unfoldable pub hop_tests : Trip → At → Heading → List Test
hop_tests t p h =
    let broken = hop_breaks t.west p.column p.last h in
    not (stays t.columns t.rows h p.row p.column) gives 12 ∷
    turns_back p.last h gives 13 ∷
    is_rule1 broken gives 14 ∷
    is_rule2 broken gives 17 ∷
    blocked t h 1 p.row p.column gives 15 ∷
    []

-- what is wrong with a letter: 11 not one of E, N, S, W; 12 to 15 and 17; 0 nothing
unfoldable pub letter_mistake : Trip → At → Option Heading → ℕ
letter_mistake t p None = 11
letter_mistake t p (Some h) = first (hop_tests t p h)

-- the packet after a letter
unfoldable pub follow : Option Heading → At → At
follow None p = p
follow (Some h) p = moved h p

-- passed, with the length; or what is wrong, with the index of that letter
pub data Verdict : Type 0 where
  passed : ℕ → Verdict
  failed : ℕ → ℕ → Verdict

-- the mistake of that number at index i, if it is not 0; else the verdict on the rest
unfoldable pub unless : ℕ → ℕ → Verdict → Verdict
unless zero i rest = rest
unless (suc k) i rest = failed (suc k) i

-- the letters from index i on, in turn; after the last one 16 not at the destination
unfoldable pub judge : Trip → At → ℕ → List ℕ → Verdict
judge t p i [] = cond (arrived t p) (passed i) (failed 16 i)
judge t p i (x ∷ xs) =
    let rest = judge t (follow (named x) p) (suc i) xs in
    unless (letter_mistake t p (named x)) i rest

-- what it answers as a verdict; a refusal has index 0
abbrev pub judged_verdict : Result ℕ NotPassed → Verdict
judged_verdict (Ok n) = passed n
judged_verdict (Err (Wrong m i)) = failed (mistake_number m) i
judged_verdict (Err (Refused r)) = failed (number r) 0

-- a verdict in numbers: 0 passed, or the number of what is wrong
abbrev pub verdict_code : Verdict → ℕ
verdict_code (passed n) = 0
verdict_code (failed k i) = k

-- the length, or the index of what is wrong
abbrev pub verdict_index : Verdict → ℕ
verdict_index (passed n) = n
verdict_index (failed k i) = i

-- on a marked mesh: the letters from the source on
unfoldable pub judge_from : Network → Mesh → Place → Place → List ℕ → Verdict
judge_from n w s d xs = judge (trip_on n w d) (fresh s) 0 xs

-- refusals 1 to 7, then the letters; any destination in no block is allowed
unfoldable pub judgement : Network → ℕ → ℕ → List ℕ → Place → Place → List ℕ → Verdict
judgement network columns rows map s d xs =
    let w = marked (mesh columns rows map) in
    unless (first (map_tests columns rows map ++ place_tests w s d)) 0 (judge_from network w s d xs)
