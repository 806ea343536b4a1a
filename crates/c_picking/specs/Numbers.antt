-- "Pick" in numbers. Assumes nothing.
use Rattle.std.specs.Prelude.{◌≡◌, List, ℕ}
use Rattle.mesh.specs.declared.Network.{Network}
use Rattle.mesh.specs.declared.Place.{Place}
use Rattle.mesh.specs.Numbers.{network_number}
use Rattle.mesh.specs.Routing.{route_output}
use Rattle.theory_pick.specs.Picking.{Pick, route, none, picked, buffer_of, lent_number}
use Rattle.buffers.specs.Over.{put_first}

-- the number of the network whose route is picked; 0 where none is
abbrev pub pick_network : Pick → ℕ
pick_network (route network n) = network_number network
pick_network (none k) = 0

-- the number of hops stands first in what is lent for it; where there is no route that is as it was
abbrev pub put_hops : Pick → List ℕ → List ℕ
put_hops (route network n) letters = put_first n letters
put_hops (none k) letters = letters

-- its promise: x is the network whose route is picked, by its number; each buffer is as Route leaves it; the number of letters stands first in
-- letters, and first in refusal 0 or the refusal
pub record PicksInNumbers (columns rows : ℕ) (map : List ℕ) (s d : Place) (first second letters refusal : List ℕ) (x : ℕ) (first' second' letters' refusal' : List ℕ) : Type 0 where
  pub picks : x ≡ pick_network (picked columns rows map s d first second)
  pub writes : (network : Network) → buffer_of network first' second' ≡ route_output network columns rows map s d (buffer_of network first second)
  pub counts : letters' ≡ put_hops (picked columns rows map s d first second) letters
  pub lends : refusal' ≡ put_first (lent_number (picked columns rows map s d first second)) refusal
