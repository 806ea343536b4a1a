-- Move on: a packet is moved by one hop (document 01, "The four operations"), on either network (document 02, E6). Assumes nothing.
use Rattle.std.specs.Prelude.{◌≡◌, Bool, not, cond, ◌&&◌, List, ◌++◌, ℕ, zero, suc, Option, Some, None, Result, Ok, Err}
use Rattle.mesh.specs.declared.Refusal.{Refusal}
use Rattle.mesh.specs.declared.Network.{Network}
use Rattle.mesh.specs.declared.Packet.{Packet}
use Rattle.mesh.specs.Mesh.{Mesh, mesh}
use Rattle.mesh.specs.Headings.{Heading, letter}
use Rattle.mesh.specs.Tests.{first}
use Rattle.mesh.specs.Numbers.{number, refusal_code}
use Rattle.mesh.specs.Rounds.{marked}
use Rattle.mesh.specs.Hops.{lawful, at, trip_of, is_there, moved_packet}
use Rattle.mesh.specs.Walk.{hop_at}
use Rattle.mesh.specs.Maps.{map_tests}
use Rattle.mesh.specs.Requests.{trip_tests}

-- an answer in the paper's terms: the letter, "arrived", or the number of a refusal
pub data Told : Type 0 where
  hopped : ℕ → Told
  there : Told
  refused : ℕ → Told

-- what it answers, in these terms
abbrev pub moved_told : Result (Option Heading) Refusal → Told
moved_told (Ok (Some h)) = hopped (letter h)
moved_told (Ok None) = there
moved_told (Err r) = refused (number r)

-- an answer as one number: the letter, 0 arrived, or the refusal
abbrev pub told_code : Told → ℕ
told_code (hopped x) = x
told_code there = 0
told_code (refused k) = refusal_code k

-- refusals 1 to 8 as for a route, the packet's place standing for the source
unfoldable pub move_refusal : ℕ → ℕ → List ℕ → Packet → ℕ
move_refusal columns rows map p =
    let w = marked (mesh columns rows map) in
    first (map_tests columns rows map ++ trip_tests w p.place p.destination)

-- the hop by the rules from where the packet is, on a marked mesh
unfoldable pub hop_from : Network → Mesh → Packet → Heading
hop_from n w p = hop_at (trip_of n w p) (at p)

-- this one hop is lawful
unfoldable pub may_hop : Network → Mesh → Packet → Bool
may_hop n w p = lawful (trip_of n w p) (at p) (hop_from n w p)

-- the refusal of that number, if it is not 0; then "arrived" if it is there; then 9 if this one hop is unlawful; else the letter
unfoldable pub told : ℕ → Network → Mesh → Packet → Told
told zero n w p = cond (is_there p) there (cond (may_hop n w p) (hopped (letter (hop_from n w p))) (refused 9))
told (suc k) n w p = refused (suc k)

-- the record after it: in "arrived" and every refusal unchanged
unfoldable pub record_after : ℕ → Network → Mesh → Packet → Packet
record_after zero n w p = cond (not (is_there p) && may_hop n w p) (moved_packet (hop_from n w p) p) p
record_after (suc k) n w p = p

-- what it answers,
abbrev pub move_answer : Network → ℕ → ℕ → List ℕ → Packet → Told
move_answer network columns rows map p = told (move_refusal columns rows map p) network (marked (mesh columns rows map)) p

-- and the record as it leaves it
abbrev pub move_record : Network → ℕ → ℕ → List ℕ → Packet → Packet
move_record network columns rows map p = record_after (move_refusal columns rows map p) network (marked (mesh columns rows map)) p

-- the promise of "Move on" for a packet's record before and after it
pub record MovesOn (network : Network) (columns rows : ℕ) (map : List ℕ) (p : Packet) (m : Result (Option Heading) Refusal) (after : Packet) : Type 0 where
  pub answers : moved_told m ≡ move_answer network columns rows map p
  pub leaves : after ≡ move_record network columns rows map p
