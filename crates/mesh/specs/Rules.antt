-- The hop rules (document 01, "The hop rules"), over any account of the bad nodes and either parity. The packet is at (r, c), its last hop is l.
-- Assumes nothing.
use Rattle.std.specs.Prelude.{Bool, false, not, cond, ◌&&◌, ◌||◌, ℕ, ltb, eqb, Option, Some, None}
use Rattle.mesh.specs.declared.Network.{Network}
use Rattle.mesh.specs.declared.Place.{Place}
use Rattle.mesh.specs.Mesh.{Mesh}
use Rattle.mesh.specs.Headings.{Heading, E, N, S, W}
use Rattle.mesh.specs.Parity.{turns_west}
use Rattle.mesh.specs.Nodes as nodes
use Rattle.mesh.specs.Nodes.{ahead}

-- what the rules look at besides the packet: the mesh, its bad nodes, the columns that permit NW and SW, and the destination (R, C)
pub record Trip : Type 0 where
  pub columns : ℕ
  pub rows : ℕ
  pub bad : ℕ → ℕ → Bool
  pub west : ℕ → Bool
  pub R : ℕ
  pub C : ℕ

-- to a destination on a marked mesh, with the turns of a network
abbrev pub trip_on : Network → Mesh → Place → Trip
trip_on n w d =
    record {
      columns = w.columns;
      rows = w.rows;
      bad = nodes.bad w;
      west = turns_west n;
      R = d.row.0;
      C = d.column.0;
    }

-- the node k hops that way is in a block; none beyond the mesh is
unfoldable pub blocked : Trip → Heading → ℕ → ℕ → ℕ → Bool
blocked t h k r c = ahead t.bad h k r c

-- side: E if C > c, else W
unfoldable pub side : Trip → ℕ → Heading
side t c = cond (ltb c t.C) E W

-- toward: the vertical direction to row R
unfoldable pub toward : Trip → ℕ → Heading
toward t r = cond (ltb r t.R) N S

-- the columns of a side's own turns, EN and ES or NW and SW: on the first network odd for E, even for W
unfoldable pub own : Trip → Heading → ℕ → Bool
own t E c = not (t.west c)
own t N c = false
own t S c = false
own t W c = t.west c

-- stopped: the next node to the side is in a block; or the second one is, and c is odd (side E) or even (side W), as the first network has it
unfoldable pub stopped : Trip → ℕ → ℕ → Bool
stopped t r c = blocked t (side t c) 1 r c || (own t (side t c) c && blocked t (side t c) 2 r c)

-- repeat the last hop if it was N or S, else N
unfoldable pub again : Option Heading → Heading
again None = N
again (Some E) = N
again (Some N) = N
again (Some S) = S
again (Some W) = N

-- rule 1: at the destination
unfoldable pub at_destination : Trip → ℕ → ℕ → Bool
at_destination t r c = eqb r t.R && eqb c t.C

-- rule 2, r = R: not stopped, hop to the side; stopped, repeat the last hop if it was N or S, else hop N
unfoldable pub in_row : Trip → ℕ → ℕ → Option Heading → Heading
in_row t r c l = cond (stopped t r c) (again l) (side t c)

-- rule 3, last hop h leading away from R: stopped, repeat it; else hop to the side
unfoldable pub leaving : Trip → ℕ → ℕ → Heading → Heading
leaving t r c h = cond (stopped t r c) h (side t c)

-- rules 4 (s is E) and 6 (s is W): hop toward if c is odd (4) or even (6), as the first network has it, and that node isn't in a block; else s
unfoldable pub across : Trip → ℕ → ℕ → Heading → Heading
across t r c s = cond (own t s c && not (blocked t (toward t r) 1 r c)) (toward t r) s

-- rule 5, last hop h leading toward R: repeat it if that node isn't in a block; else W
unfoldable pub nearing : Trip → ℕ → ℕ → Heading → Heading
nearing t r c h = cond (blocked t h 1 r c) W h

-- rules 3 to 6, by the last hop
unfoldable pub other_row : Trip → ℕ → ℕ → Option Heading → Heading
other_row t r c None = across t r c W
other_row t r c (Some E) = across t r c E
other_row t r c (Some N) = cond (ltb r t.R) (nearing t r c N) (leaving t r c N)
other_row t r c (Some S) = cond (ltb r t.R) (leaving t r c S) (nearing t r c S)
other_row t r c (Some W) = across t r c W

-- the hop by the rules, where rule 1 does not apply
unfoldable pub hop : Trip → ℕ → ℕ → Option Heading → Heading
hop t r c l = cond (eqb r t.R) (in_row t r c l) (other_row t r c l)
