-- A whole table of sends in one call (document 02, E2), on either network (E6): what is answered and written. Assumes nothing.
use Rattle.std.specs.Prelude.{◌≡◌, ◌||◌, List, [], ◌∷◌, ◌++◌, map, ℕ, zero, suc, ltb, length, drop, Result, Ok, Err}
use Rattle.mesh.specs.declared.Heading.{Heading}
use Rattle.mesh.specs.declared.Network.{Network}
use Rattle.mesh.specs.Mesh.{mesh}
use Rattle.mesh.specs.Headings.{letters}
use Rattle.mesh.specs.Tests.{◌gives◌, first}
use Rattle.mesh.specs.Numbers.{number, Answer, refused, returned, answer, answer_code, written}
use Rattle.mesh.specs.Rounds.{marked}
use Rattle.mesh.specs.Maps.{map_tests}
use Rattle.mesh.specs.Routing.{hops_of, route_refusal}
use Rattle.theory_batch.specs.declared.BatchRefusal.{BatchRefusal}
use Rattle.theory_batch.specs.declared.BatchRefusal.TheVariants.{Map, NotSends}
use Rattle.theory_batch.specs.declared.Send.{Send}
use Rattle.theory_batch.specs.Sends.{sends_of, uneven}

-- A single call of Route

-- what a call does: its answer, and the letters that it writes
pub record Call : Type 0 where
  pub answer : Answer
  pub letters : List ℕ

-- what is written: on a refusal nothing
unfoldable pub unless_refused : ℕ → List ℕ → List ℕ
unless_refused zero new = new
unless_refused (suc k) new = []

-- a call by its refusal, or 0, and its hops
unfoldable pub call : ℕ → List Heading → Call
call k hs = record { answer = answer k (length hs); letters = unless_refused k (letters hs) }

-- Route called for a send, with the output that is free
unfoldable pub route_call : Network → ℕ → ℕ → List ℕ → Send → List ℕ → Call
route_call network columns rows faults x free =
    call (route_refusal network columns rows faults x.source x.destination free) (hops_of network (marked (mesh columns rows faults)) x.source x.destination)

-- The table

-- each send in turn is called with the output that is still free: what lies after the letters written so far
unfoldable pub calls : (Send → List ℕ → Call) → List Send → List ℕ → List Call
calls route [] free = []
calls route (x ∷ xs) free = let c = route x free in c ∷ calls route xs (drop (length c.letters) free)

-- the answer list: of each send the hop number, or 65,536 plus the refusal
unfoldable pub answers_of : List Call → List ℕ
answers_of cs = map (λ c. answer_code c.answer) cs

-- the letters of all sends, one after another
unfoldable pub letters_of : List Call → List ℕ
letters_of [] = []
letters_of (c ∷ cs) = c.letters ++ letters_of cs

-- the calls of a table
abbrev pub batch : Network → ℕ → ℕ → List ℕ → List ℕ → List ℕ → List Call
batch network columns rows faults sends out = calls (route_call network columns rows faults) (sends_of sends) out

-- The operation

-- the number of each refusal
abbrev pub batch_refusal_number : BatchRefusal → ℕ
batch_refusal_number (Map r) = number r
batch_refusal_number NotSends = 18

-- what it answers, in the paper's terms
abbrev pub batched_answer : Result ℕ BatchRefusal → Answer
batched_answer (Ok n) = returned n
batched_answer (Err e) = refused (batch_refusal_number e)

-- refusals 1 to 5; 18 the list isn't whole sends, or the answer list has fewer entries than sends
unfoldable pub batch_refusal : ℕ → ℕ → List ℕ → List ℕ → List ℕ → ℕ
batch_refusal columns rows faults sends answers =
    first (map_tests columns rows faults ++ ((uneven sends || ltb (length answers) (length (sends_of sends))) gives 18 ∷ []))

-- it returns the number of letters,
abbrev pub batch_answer : Network → ℕ → ℕ → List ℕ → List ℕ → List ℕ → List ℕ → Answer
batch_answer network columns rows faults sends answers out =
    answer (batch_refusal columns rows faults sends answers) (length (letters_of (batch network columns rows faults sends out)))

-- writes the answers into the answer list,
abbrev pub batch_entries : Network → ℕ → ℕ → List ℕ → List ℕ → List ℕ → List ℕ → List ℕ
batch_entries network columns rows faults sends answers out =
    written (batch_refusal columns rows faults sends answers) (answers_of (batch network columns rows faults sends out)) answers

-- and the letters into the output
abbrev pub batch_output : Network → ℕ → ℕ → List ℕ → List ℕ → List ℕ → List ℕ → List ℕ
batch_output network columns rows faults sends answers out =
    written (batch_refusal columns rows faults sends answers) (letters_of (batch network columns rows faults sends out)) out

-- its promise
pub record RoutesBatch (network : Network) (columns rows : ℕ) (faults sends answers out : List ℕ) (r : Result ℕ BatchRefusal) (answers' out' : List ℕ) : Type 0 where
  pub returns : batched_answer r ≡ batch_answer network columns rows faults sends answers out
  pub enters : answers' ≡ batch_entries network columns rows faults sends answers out
  pub writes : out' ≡ batch_output network columns rows faults sends answers out
