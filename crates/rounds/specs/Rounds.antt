-- What the functions of a round say of their buffers. Assumes nothing.
use Rattle.std.specs.Prelude.{◌≡◌, Bool, true, false, List, ℕ, ◌+◌, ◌-◌, ◌*◌, ◌≤◌, ◌<◌, length, get_or}
use Rattle.mesh.specs.Mesh.{Mesh}
use Rattle.nodes.specs.Rounds.{node_after}
use Rattle.mesh.specs.Rounds.{round, marked, rounds}

-- the first k nodes of row r are those after a round, and what stands before the row is as it was
pub record RowAfter (w : Mesh) (r k : ℕ) (before after : List ℕ) : Type 0 where
  pub size : length after ≡ length before
  pub old : (j : ℕ) → j < r * w.columns → get_or after j 0 ≡ get_or before j 0
  pub new : (c : ℕ) → c < k → get_or after (r * w.columns + c) 0 ≡ node_after w r c

-- of the first k rows, those that are due are those after a round
pub record DueAfter (w : Mesh) (due : List Bool) (k : ℕ) (next : List ℕ) : Type 0 where
  pub new : (r c : ℕ) → r < k → c < w.columns → get_or due r false ≡ true → get_or next (r * w.columns + c) 0 ≡ node_after w r c

-- the numbers from start up to end are those of xs, the others those of ys, and it is told whether that changed anything
pub record Copied (xs ys : List ℕ) (start end : ℕ) (changed : Bool) (now : List ℕ) : Type 0 where
  pub size : length now ≡ length ys
  pub new : (j : ℕ) → start ≤ j → j < end → get_or now j 0 ≡ get_or xs j 0
  pub before : (j : ℕ) → j < start → get_or now j 0 ≡ get_or ys j 0
  pub after : (j : ℕ) → end ≤ j → get_or now j 0 ≡ get_or ys j 0
  pub same : changed ≡ false → (j : ℕ) → start ≤ j → j < end → get_or xs j 0 ≡ get_or ys j 0
  pub differ : changed ≡ true → ((j : ℕ) → start ≤ j → j < end → get_or xs j 0 ≡ get_or ys j 0) → ⊥

-- row r of next stands in now if it is due
pub record RowCopied (columns r : ℕ) (next : List ℕ) (due : List Bool) (out : List ℕ) (changed : Bool) (now : List ℕ) : Type 0 where
  pub kept : get_or due r false ≡ false → (changed ≡ false) × (now ≡ out)
  pub copied : get_or due r false ≡ true → Copied next out (r * columns) (r * columns + columns) changed now

-- a round leaves row r as it is
pub record Settled (w : Mesh) (r : ℕ) : Type 0 where
  pub rests : (c : ℕ) → c < w.columns → node_after w r c ≡ get_or w.map (r * w.columns + c) 0

-- a round changes no row that is not due
pub record OthersSettled (w : Mesh) (due : List Bool) : Type 0 where
  pub settled : (r : ℕ) → r < w.rows → get_or due r false ≡ false → Settled w r

-- a round is made, and it is told of each row and of the map whether that changed anything
pub record Rounded (w : Mesh) (any : Bool) (changed : List Bool) (now : List ℕ) : Type 0 where
  pub copy : now ≡ round w
  pub rows : (r : ℕ) → r < w.rows → get_or changed r false ≡ false → Settled w r
  pub others : (r : ℕ) → r < w.rows → Settled w r → get_or changed r false ≡ false
  pub same : any ≡ false → round w ≡ w.map
  pub differ : any ≡ true → round w ≡ w.map → ⊥

-- neither row r nor a row beside it changed; south of row 0 stands row 0 itself
pub record Quiet (rows : ℕ) (changed : List Bool) (r : ℕ) : Type 0 where
  pub here : get_or changed r false ≡ false
  pub south : get_or changed (r - 1) false ≡ false
  pub north : r + 1 < rows → get_or changed (r + 1) false ≡ false

-- x is false exactly if row r is quiet
pub record Near (rows : ℕ) (changed : List Bool) (r : ℕ) (x : Bool) : Type 0 where
  pub quiet : x ≡ false → Quiet rows changed r
  pub none : Quiet rows changed r → x ≡ false

-- of the first k rows, exactly the quiet ones are not due
pub record Spread (rows : ℕ) (changed : List Bool) (k : ℕ) (due : List Bool) : Type 0 where
  pub near : (r : ℕ) → r < k → Near rows changed r (get_or due r false)

-- a round changes no quiet row
pub record QuietSettled (w : Mesh) (changed : List Bool) : Type 0 where
  pub settled : (r : ℕ) → r < w.rows → Quiet w.rows changed r → Settled w r

-- now is the marking of w, and n the number of its rounds
pub record Settles (w : Mesh) (n : ℕ) (now : List ℕ) : Type 0 where
  pub marks : now ≡ (marked w).map
  pub counts : n ≡ rounds w
