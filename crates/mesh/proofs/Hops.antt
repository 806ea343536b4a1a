-- Packets and places of the mesh, and what a lawful hop is made of. Assumes nothing.
use Rattle.std.proofs.Common.{Option, Some, ◌≡◌, refl, Bool, true, false, not, ℕ, ◌<◌, arith, ltb-true, lt-ltb, ltb}
use Rattle.std.proofs.lemmas.Bool.{and_parts, and_from, not-true}
use Rattle.mesh.specs.Mesh.{Mesh, on_mesh}
use Rattle.mesh.specs.Headings.{Heading, E, N, S, W, row_after, column_after, opposite, same}
use Rattle.mesh.specs.Turns.{breaks, turn_breaks, hop_breaks, reverses, turns_back, may_turn}
use Rattle.mesh.specs.Rules.{Trip, blocked}
use Rattle.mesh.specs.Hops.{At, stays, lawful}

-- a packet at (r, c) whose last hop is l
abbrev pub state : ℕ → ℕ → Option Heading → At
state r c l = record { row = r; column = c; last = l }

-- (r, c) is a place of the mesh exactly if both numbers are small enough
module _ (w : Mesh) (r c : ℕ) where
  pub on-mesh : on_mesh w r c ≡ true → (r < w.rows) × (c < w.columns)
  unfolding on_mesh
  on-mesh e = let (i, j) = and_parts (ltb r w.rows) _ e in (ltb-true _ _ i, ltb-true _ _ j)

  pub is-on-mesh : r < w.rows → c < w.columns → on_mesh w r c ≡ true
  unfolding on_mesh
  is-on-mesh i j = and_from _ _ (lt-ltb _ _ i) (lt-ltb _ _ j)

-- a hop that stays on the mesh ends on it
pub stays_on : {columns rows : ℕ} (h : Heading) {r c : ℕ} → r < rows → c < columns → stays columns rows h r c ≡ true →
    (row_after h r < rows) × (column_after h c < columns)
unfolding stays row_after column_after
stays_on E i j s = (i, ltb-true _ _ s)
stays_on N i j s = (ltb-true _ _ s, j)
stays_on S i j s = (omega arith, j)
stays_on W i j s = (i, omega arith)

-- going straight on is permitted everywhere
pub straight-on : (west : ℕ → Bool) (c : ℕ) (h : Heading) → may_turn west c (Some h) h ≡ true
unfolding may_turn turns_back hop_breaks reverses turn_breaks breaks same opposite
straight-on west c E = refl
straight-on west c N = refl
straight-on west c S = refl
straight-on west c W = refl

-- a lawful hop stays on the mesh, enters no block, and is neither a reversal nor a forbidden turn
module _ (t : Trip) (p : At) (h : Heading) (l : lawful t p h ≡ true) where
  pub lawful-stays : stays t.columns t.rows h p.row p.column ≡ true
  unfolding lawful
  lawful-stays = (and_parts _ _ l).0

  pub lawful-enters : blocked t h 1 p.row p.column ≡ false
  unfolding lawful
  lawful-enters = not-true _ (and_parts _ _ (and_parts (stays t.columns t.rows h p.row p.column) _ l).1).0

  pub lawful-turns : may_turn t.west p.column p.last h ≡ true
  unfolding lawful
  lawful-turns =
      (and_parts (not (blocked t h 1 p.row p.column)) _ (and_parts (stays t.columns t.rows h p.row p.column) _ l).1).1
