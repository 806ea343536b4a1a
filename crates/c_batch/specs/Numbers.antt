-- "A whole table of sends" in numbers. Assumes nothing.
use Rattle.std.specs.Prelude.{◌≡◌, cond, List, ℕ}
use Rattle.mesh.specs.Numbers.{is_network, network_of, no_request}
use Rattle.theory_batch.specs.Batch.{batch_refusal, batch_answer, batch_entries, batch_output}
use Rattle.numbers.specs.Returned.{put_returned}

-- its promise: x is 0 or the refusal, and the number of letters stands first in letters; x is 65,536, and nothing is changed, if the number is
-- no network's
pub record RoutesBatchInNumbers (network columns rows : ℕ) (map sends answers out letters : List ℕ) (x : ℕ) (answers' out' letters' : List ℕ) : Type 0 where
  pub refuses : x ≡ cond (is_network network) (batch_refusal columns rows map sends answers) no_request
  pub enters : answers' ≡ cond (is_network network) (batch_entries (network_of network) columns rows map sends answers out) answers
  pub writes : out' ≡ cond (is_network network) (batch_output (network_of network) columns rows map sends answers out) out
  pub counts : letters' ≡ cond (is_network network) (put_returned (batch_answer (network_of network) columns rows map sends answers out) letters) letters
