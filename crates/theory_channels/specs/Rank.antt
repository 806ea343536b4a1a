-- The order in which packets go through a mesh, whichever columns permit NW and SW (`west`): the reason why channels form no ring.
--
-- Unfold the mesh at its west edge into a line of 2 columns - 1 stages. A packet bound west meets the last column at stage 0 and column 0 in the
-- middle; one bound east goes on from the middle to the last column again. In a column that permits NW and SW the hops N and S belong to packets
-- bound west, in any other to packets bound east. Then no permitted hop leads to an earlier stage, and one that stays at its stage climbs: it
-- leads further along the column (`hop-is-later`). Assumes nothing.
use Rattle.std.specs.Prelude.{◌≡◌, Bool, cond, ℕ, suc, ◌+◌, ◌-◌, ◌*◌, ◌≤◌, ◌<◌, Option, Some, None}
use Rattle.mesh.specs.declared.Heading.{Heading}
use Rattle.mesh.specs.declared.Heading.TheVariants.{East as E, North as N, South as S, West as W}
use Rattle.mesh.specs.Mesh.{Mesh}
use Rattle.mesh.specs.Hops.{At}
use Rattle.theory_channels.specs.Channels.{Channel, end_row, end_column}

-- the stage of column c for a packet bound west, and for one bound east
abbrev pub westbound : ℕ → ℕ → ℕ
westbound columns c = columns - suc c

abbrev pub eastbound : ℕ → ℕ → ℕ
eastbound columns c = columns - 1 + c

-- the stage of a packet in column c, by its last hop; a fresh one counts as bound west
unfoldable pub stage : (ℕ → Bool) → ℕ → Option Heading → ℕ → ℕ
stage west columns None c = westbound columns c
stage west columns (Some E) c = eastbound columns c
stage west columns (Some N) c = cond (west c) (westbound columns c) (eastbound columns c)
stage west columns (Some S) c = cond (west c) (westbound columns c) (eastbound columns c)
stage west columns (Some W) c = westbound columns c

-- how far along its column a packet in row r is, going N or S
unfoldable pub climb : ℕ → Option Heading → ℕ → ℕ
climb rows None r = 0
climb rows (Some E) r = 0
climb rows (Some N) r = r
climb rows (Some S) r = rows - suc r
climb rows (Some W) r = 0

-- both of a packet at p
abbrev pub stage_of : (ℕ → Bool) → ℕ → At → ℕ
stage_of west columns p = stage west columns p.last p.column

abbrev pub climb_of : ℕ → At → ℕ
climb_of rows p = climb rows p.last p.row

-- q is later than p: at no earlier stage, and further along the column if at the same one
pub record Later (west : ℕ → Bool) (columns rows : ℕ) (p q : At) : Type 0 where
  pub no-earlier : stage_of west columns p ≤ stage_of west columns q
  pub climbs : stage_of west columns p ≡ stage_of west columns q → climb_of rows p < climb_of rows q

-- stage and climb as one number
unfoldable pub rank : (ℕ → Bool) → ℕ → ℕ → At → ℕ
rank west columns rows p = stage_of west columns p * rows + climb_of rows p

-- a packet that has come through a channel, and its rank
abbrev pub came : Channel → At
came a = record { row = end_row a; column = end_column a; last = Some a.way }

abbrev pub channel_rank : (ℕ → Bool) → Mesh → Channel → ℕ
channel_rank west w a = rank west w.columns w.rows (came a)
