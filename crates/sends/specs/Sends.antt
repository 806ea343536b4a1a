-- Sends read from a list, and Route for one on a marking already made. Assumes nothing.
use Rattle.mesh.specs.declared.Refusal.{Refusal}
use Rattle.std.specs.Prelude.{◌≡◌, List, ℕ, ◌+◌, ◌*◌, drop, get_or, Result, Ok, Err}
use Rattle.mesh.specs.declared.Network.{Network}
use Rattle.mesh.specs.Mesh.{Mesh}
use Rattle.mesh.specs.Tests.{first}
use Rattle.mesh.specs.Routing.{routed_answer, hops_of, send_tests}
use Rattle.theory_batch.specs.declared.Send.{Send}
use Rattle.theory_batch.specs.Sends.{send}
use Rattle.theory_batch.specs.Batch.{Call, call}
use Rattle.buffers.specs.Over.{Puts}

-- the send of index i
abbrev pub send_at : List ℕ → ℕ → Send
send_at sends i = send (get_or sends (4 * i) 0) (get_or sends (4 * i + 1) 0) (get_or sends (4 * i + 2) 0) (get_or sends (4 * i + 3) 0)

-- how many letters a call has written
abbrev pub wrote : Result ℕ Refusal → ℕ
wrote (Ok n) = n
wrote (Err why) = 0

-- Route called for a send on a marked mesh, with the output that is free
unfoldable pub route_call_on : Network → Mesh → Send → List ℕ → Call
route_call_on network w x free = call (first (send_tests network w x.source x.destination free)) (hops_of network w x.source x.destination)

-- a call with the output that is free from index at on: its answer, and its letters stand there
pub record RoutesSend (route : Send → List ℕ → Call) (x : Send) (out : List ℕ) (at : ℕ) (r : Result ℕ Refusal) (after : List ℕ) : Type 0 where
  pub answers : routed_answer r ≡ (route x (drop at out)).answer
  pub puts : Puts out at (route x (drop at out)).letters (at + wrote r) after
