-- A table of sends on a marking already made. Assumes nothing.
use Rattle.std.specs.Prelude.{◌≡◌, List, ◌++◌, ℕ, length, drop}
use Rattle.theory_batch.specs.declared.Send.{Send}
use Rattle.theory_batch.specs.Sends.{sends_of}
use Rattle.theory_batch.specs.Batch.{Call, calls, answers_of, letters_of}

-- the answers and the letters of all sends are written, and n is the number of letters
pub record RoutesSends (route : Send → List ℕ → Call) (sends answers out : List ℕ) (n : ℕ) (answers' out' : List ℕ) : Type 0 where
  pub counts : n ≡ length (letters_of (calls route (sends_of sends) out))
  pub enters : answers' ≡ answers_of (calls route (sends_of sends) out) ++ drop (length (answers_of (calls route (sends_of sends) out))) answers
  pub writes : out' ≡ letters_of (calls route (sends_of sends) out) ++ drop (length (letters_of (calls route (sends_of sends) out))) out
