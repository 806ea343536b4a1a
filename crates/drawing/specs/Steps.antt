-- What the refusals leave to be drawn, and what a draw does to the map. Assumes nothing.
use Rattle.std.specs.Prelude.{◌≡◌, false, cond, List, ℕ, ◌*◌, ◌≤◌, eqb, length, get_or, set}
use Rattle.mesh.specs.declared.Place.{Place}
use Rattle.theory_draw.specs.Draws.{index_of}
use Rattle.theory_draw.specs.Drawing.{drawn_map, drawn_faults, bad_draws}

-- a mesh and a number of draws that are not refused, and room for the map
pub record Ready (columns rows n : ℕ) (map : List ℕ) : Type 0 where
  pub few-columns : columns ≤ 64
  pub few-rows : rows ≤ 64
  pub good-draws : bad_draws columns rows n ≡ false
  pub size : length map ≡ columns * rows

-- the node becomes faulty; x is 0 if it was, else 1
pub record SetsFault (columns : ℕ) (p : Place) (map : List ℕ) (x : ℕ) (after : List ℕ) : Type 0 where
  pub counts : x ≡ cond (eqb (get_or map (index_of columns p) 0) 1) 0 1
  pub sets : after ≡ set map (index_of columns p) 1

-- the map is drawn; x is its number of distinct faults
pub record Fills (columns rows seed n x : ℕ) (after : List ℕ) : Type 0 where
  pub counts : x ≡ drawn_faults columns rows seed n
  pub fills : after ≡ drawn_map columns rows seed n
