-- What the loop over the letters keeps. Assumes nothing.
use Rattle.std.proofs.Common.{◌≡◌, sym, ◌∙◌, true, false, cond, List, ℕ, suc, ◌+◌, ◌≤◌, ◌<◌, length, get_or, drop, Option, Some, None, Result, Ok, Err, add-one, arith, drop-cons}
use mathlib.Core.Logic.{inl, inr}
use lib.ListN.{drop_of_length-le}
use Rattle.mesh.specs.declared.Heading.{Heading}
use Rattle.mesh.specs.declared.Mistake.{Mistake}
use Rattle.mesh.specs.declared.Mistake.TheVariants.{NoLetter}
use Rattle.mesh.specs.declared.Network.{Network}
use Rattle.mesh.specs.declared.Packet.{Packet}
use Rattle.mesh.specs.Mesh.{Mesh}
use Rattle.mesh.specs.Headings.{named}
use Rattle.mesh.specs.Tests.{first}
use Rattle.mesh.specs.Numbers.{mistake_number}
use Rattle.mesh.specs.Rules.{Trip, at_destination}
use Rattle.mesh.specs.Hops.{At, stays, moved, at, trip_of, is_there}
use Rattle.mesh.specs.Walk.{arrived}
use Rattle.mesh.specs.Judging.{hop_tests, letter_mistake, follow, passed, failed, unless, judge}
use Rattle.mesh.proofs.Bools.{value}
use Rattle.mesh.proofs.Numbers.{mistake-some}
use Rattle.nodes.specs.Sized.{OnMesh}
use Rattle.hops.specs.Tests.{Tests}
use Rattle.hops.proofs.Landing.{packet-lands}

-- a letter with nothing wrong stays on the mesh
lawful-stays : (t : Trip) (p : At) (h : Heading) → letter_mistake t p (Some h) ≡ 0 → stays t.columns t.rows h p.row p.column ≡ true
unfolding letter_mistake hop_tests first
lawful-stays t p h e =
    elim (value (stays t.columns t.rows h p.row p.column))
    [ inl s ↦ s | inr s ↦ absurd (let z = rw s at e in omega arith) ]

-- the letters before index i are lawful and have brought the packet to p
pub record Judging (network : Network) (w : Mesh) (packet p : Packet) (xs : List ℕ) (i : ℕ) : Type 0 where
  pub on-mesh : OnMesh w p.place
  pub rest : judge (trip_of network w packet) (at packet) 0 xs ≡ judge (trip_of network w p) (at p) i (drop i xs)

module _ (network : Network) (w : Mesh) (packet : Packet) (xs : List ℕ) where
  module _ {p : Packet} {i : ℕ} (s : Judging network w packet p xs i) where
    module _ (h : i < length xs) where
      rest-letter : {l : Option Heading} → l ≡ named (get_or xs i 0) →
          judge (trip_of network w packet) (at packet) 0 xs ≡ unless (letter_mistake (trip_of network w p) (at p) l) i (judge (trip_of network w p) (follow l (at p)) (suc i) (drop (suc i) xs))
      unfolding judge
      rest-letter e = s.rest ∙ rw (drop-cons xs i 0 h, e)

      pub judging-other : None ≡ named (get_or xs i 0) → failed (mistake_number NoLetter) i ≡ judge (trip_of network w packet) (at packet) 0 xs
      unfolding letter_mistake unless
      judging-other e = sym (rest-letter e)

      module _ {l : Option Heading} {hop : Heading} {t : Result Packet Mistake} (e : l ≡ named (get_or xs i 0)) (o : l ≡ Some hop) (x : Tests network w p hop t) where
        pub judging-wrong : (m : Mistake) → t ≡ Err m → failed (mistake_number m) i ≡ judge (trip_of network w packet) (at packet) 0 xs
        unfolding unless
        judging-wrong m q = sym (rest-letter e ∙ rw (o, ← x.told, q, mistake-some m))

        pub judging-on : {after : Packet} → t ≡ Ok after → Judging network w packet after xs (i + 1)
        unfolding unless follow moved
        judging-on q =
            let none : letter_mistake (trip_of network w p) (at p) (Some hop) ≡ 0 = sym x.told ∙ rw q in
            let moves = x.onward q in
            record {
              on-mesh = packet-lands hop p s.on-mesh (lawful-stays (trip_of network w p) (at p) hop none) moves;
              rest = rest-letter e ∙ rw (o, moves, none, add-one);
            }

    module _ (h : length xs ≤ i) (g : i ≤ length xs) where
      all-judged : judge (trip_of network w packet) (at packet) 0 xs ≡ cond (is_there p) (passed (length xs)) (failed 16 (length xs))
      unfolding judge arrived at_destination is_there
      all-judged = let end : i ≡ length xs = omega arith in s.rest ∙ rw (drop_of_length-le xs {i = i} h, end)

      pub judging-passed : true ≡ is_there p → passed (length xs) ≡ judge (trip_of network w packet) (at packet) 0 xs
      judging-passed t = sym (all-judged ∙ rw (← t))

      pub judging-short : false ≡ is_there p → failed 16 (length xs) ≡ judge (trip_of network w packet) (at packet) 0 xs
      judging-short t = sym (all-judged ∙ rw (← t))
