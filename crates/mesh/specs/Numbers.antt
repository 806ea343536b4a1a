-- The papers' numbers for what is refused and what is wrong, and answers that return a number or refuse. Assumes nothing.
use Rattle.std.specs.Prelude.{Bool, cond, ◌||◌, List, ◌++◌, ℕ, zero, suc, ◌+◌, eqb, length, drop, Result, Ok, Err}
use Rattle.mesh.specs.declared.Refusal.{Refusal}
use Rattle.mesh.specs.declared.Refusal.TheVariants.{Columns, Rows, MapLength, MapByte, FaultPlace, OffMesh, InBlock, BlockNearInRow, Unlawful, Room}
use Rattle.mesh.specs.declared.Mistake.{Mistake}
use Rattle.mesh.specs.declared.Mistake.TheVariants.{NoLetter, LeavesMesh, Reverses, BreaksRule1, BreaksRule2, EntersBlock, NotArrived}
use Rattle.mesh.specs.declared.Network.{Network}
use Rattle.mesh.specs.declared.Network.TheVariants.{First, Second}
use Rattle.mesh.specs.declared.NoNumber.{NoNumber}
use Rattle.mesh.specs.declared.Packet.{Packet}

-- the number of each refusal
abbrev pub number : Refusal → ℕ
number Columns = 1
number Rows = 2
number MapLength = 3
number MapByte = 4
number FaultPlace = 5
number OffMesh = 6
number InBlock = 7
number BlockNearInRow = 8
number Unlawful = 9
number Room = 10

-- 0 where none applies
abbrev pub checked_number : {A : Type 0} → Result A Refusal → ℕ
checked_number (Ok u) = 0
checked_number (Err r) = number r

-- the number of each mistake in a hand-in
abbrev pub mistake_number : Mistake → ℕ
mistake_number NoLetter = 11
mistake_number LeavesMesh = 12
mistake_number Reverses = 13
mistake_number BreaksRule1 = 14
mistake_number BreaksRule2 = 17
mistake_number EntersBlock = 15
mistake_number NotArrived = 16

-- 0 where nothing is wrong with a hop
abbrev pub tested_number : Result Packet Mistake → ℕ
tested_number (Ok p) = 0
tested_number (Err m) = mistake_number m

-- the networks in numbers
abbrev pub network_number : Network → ℕ
network_number First = 1
network_number Second = 2

-- the same network
abbrev pub same_network : Network → Network → Bool
same_network m n = eqb (network_number m) (network_number n)

-- it is the number of a network
unfoldable pub is_network : ℕ → Bool
is_network k = eqb k 1 || eqb k 2

-- the network of that number
unfoldable pub network_of : ℕ → Network
network_of k = cond (eqb k 1) First Second

-- it, or that there is none of that number
unfoldable pub network_read : ℕ → Result Network NoNumber
network_read k = cond (is_network k) (Ok (network_of k)) (Err (record { 0 = k }))

-- an answer in the papers' terms: the number of a refusal, or what is returned
pub data Answer : Type 0 where
  refused : ℕ → Answer
  returned : ℕ → Answer

-- the refusal of that number, if it is not 0; else what is returned
unfoldable pub answer : ℕ → ℕ → Answer
answer zero n = returned n
answer (suc k) n = refused (suc k)

-- the refusal of an answer, or 0
abbrev pub answer_refusal : Answer → ℕ
answer_refusal (returned n) = 0
answer_refusal (refused k) = k

-- a refusal among other numbers: 65,536 plus its own
unfoldable pub refusal_code : ℕ → ℕ
refusal_code k = 65536 + k

-- what is answered where numbers are no request: refusal 0
abbrev pub no_request : ℕ
no_request = 65536

-- an answer as one number: what is returned, which is below 65,536, or the refusal
abbrev pub answer_code : Answer → ℕ
answer_code (returned n) = n
answer_code (refused k) = refusal_code k

-- what stands in an output: on a refusal no byte is changed; else what is written, and beyond it what was there
unfoldable pub written : ℕ → List ℕ → List ℕ → List ℕ
written zero new old = new ++ drop (length new) old
written (suc k) new old = old
