-- "Judge a hand-in" in numbers. Assumes nothing.
use Rattle.std.specs.Prelude.{◌≡◌, cond, List, ℕ}
use Rattle.mesh.specs.declared.Place.{Place}
use Rattle.mesh.specs.Numbers.{is_network, network_of, no_request}
use Rattle.mesh.specs.Judging.{verdict_code, verdict_index, judgement}
use Rattle.buffers.specs.Over.{put_first}

-- its promise: x is 0 for passed or the number of what is wrong, and the length or the index of what is wrong stands first in index;
-- x is 65,536, and nothing is changed, if the number is no network's
pub record JudgesInNumbers (network columns rows : ℕ) (map : List ℕ) (s d : Place) (xs index : List ℕ) (x : ℕ) (after : List ℕ) : Type 0 where
  pub answers : x ≡ cond (is_network network) (verdict_code (judgement (network_of network) columns rows map s d xs)) no_request
  pub writes : after ≡ cond (is_network network) (put_first (verdict_index (judgement (network_of network) columns rows map s d xs)) index) index
