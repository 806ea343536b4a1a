-- What the walk theorem asks of a trip, its blocks and its source. Assumes nothing.
use Rattle.std.specs.Prelude.{◌≡◌, false, not, List, ℕ, ◌+◌, ◌≤◌, ◌<◌}
use Rattle.mesh.specs.Blocks.{Block}
use Rattle.mesh.specs.Rules.{Trip}
use Rattle.mesh.specs.Walk.{shut_in, meets_edge}
use Rattle.theory_blocks.specs.Obstacles.{Obstacles}

-- bs are the blocks; the columns that permit NW and SW alternate with those that permit EN and ES;
-- the destination is on the mesh, and no bad node stands in its row within two columns of it
pub record Course (t : Trip) (bs : List Block) : Type 0 where
  pub obstacles : Obstacles t.columns t.rows t.bad bs
  pub changes : (c : ℕ) → t.west (c + 1) ≡ not (t.west c)
  pub row : t.R < t.rows
  pub column : t.C < t.columns
  pub clear : (c : ℕ) → t.C ≤ c + 2 → c ≤ t.C + 2 → t.bad t.R c ≡ false

-- a place of the mesh in no block
pub record FreePlace (t : Trip) (r c : ℕ) : Type 0 where
  pub row : r < t.rows
  pub column : c < t.columns
  pub free : t.bad r c ≡ false

-- a source that the hop rules serve: a free place, not shut in, and not meeting the west edge
pub record Served (t : Trip) (r c : ℕ) : Type 0 where
  pub place : FreePlace t r c
  pub not-shut : shut_in t r c ≡ false
  pub off-edge : meets_edge t r c ≡ false
