-- A pick of the better route (document 02, E6): both networks write into a buffer each, and the part of whichever holds the shorter route is
-- handed back. Assumes nothing.
use Rattle.std.specs.Prelude.{◌≡◌, cond, List, ℕ, ltb, take, Result, Ok, Err}
use Rattle.mesh.specs.declared.Refusal.{Refusal}
use Rattle.mesh.specs.declared.Network.{Network}
use Rattle.mesh.specs.declared.Network.TheVariants.{First, Second}
use Rattle.mesh.specs.declared.Place.{Place}
use Rattle.mesh.specs.Numbers.{number, Answer, refused, returned}
use Rattle.mesh.specs.Routing.{route_answer, route_output}
use Rattle.theory_pick.specs.declared.Picked.{Picked}

-- a pick: the route of a network, by its number of hops; or none, with a refusal
pub data Pick : Type 0 where
  route : Network → ℕ → Pick
  none : ℕ → Pick

-- what it answers as a pick
abbrev pub pick_of : Result Picked Refusal → Pick
pick_of (Ok p) = route p.network p.hops
pick_of (Err r) = none (number r)

-- of what the first and the second network answer: the shorter route, the first on a tie or if only it was served; none if both refuse, with
-- the first's refusal
unfoldable pub better : Answer → Answer → Pick
better (returned m) (returned n) = cond (ltb n m) (route Second n) (route First m)
better (returned m) (refused k) = route First m
better (refused j) (returned n) = route Second n
better (refused j) (refused k) = none j

-- each network is given a buffer of its own
abbrev pub picked : ℕ → ℕ → List ℕ → Place → Place → List ℕ → List ℕ → Pick
picked columns rows map s d first second =
    better (route_answer First columns rows map s d first) (route_answer Second columns rows map s d second)

-- of both buffers, that of a network
abbrev pub buffer_of : Network → List ℕ → List ℕ → List ℕ
buffer_of First first second = first
buffer_of Second first second = second

-- the part that is handed back: the start of the buffer that holds the route; where there is none, the empty part of the first
unfoldable pub part : Pick → List ℕ → List ℕ → List ℕ
part (route network n) first second = take n (buffer_of network first second)
part (none k) first second = take 0 first

-- the lent number: 0 where a route is handed back, else the refusal
abbrev pub lent_number : Pick → ℕ
lent_number (route network n) = 0
lent_number (none k) = k

-- the promise of the pick on both buffers: which route it is, and every byte is as Route leaves it
pub record PicksRoute (columns rows : ℕ) (map : List ℕ) (s d : Place) (first second : List ℕ) (r : Result Picked Refusal) (first' second' : List ℕ) : Type 0 where
  pub picks : pick_of r ≡ picked columns rows map s d first second
  pub writes : (network : Network) → buffer_of network first' second' ≡ route_output network columns rows map s d (buffer_of network first second)

-- the promise of the pick that hands back a part
pub record HandsBack (columns rows : ℕ) (map : List ℕ) (s d : Place) (first second handed : List ℕ) (number : ℕ) : Type 0 where
  pub hands : handed ≡ part (picked columns rows map s d first second) (route_output First columns rows map s d first) (route_output Second columns rows map s d second)
  pub lends : number ≡ lent_number (picked columns rows map s d first second)
