-- "Draw a map by number" in numbers. Assumes nothing.
use Rattle.std.specs.Prelude.{◌≡◌, List, ℕ}
use Rattle.mesh.specs.Numbers.{answer, answer_code, written}
use Rattle.theory_draw.specs.Drawing.{drawn_map, drawn_faults, draw_refusal}

-- its promise: x is the number of distinct faults, or 65,536 plus the refusal
pub record DrawsInNumbers (columns rows seed n : ℕ) (out : List ℕ) (x : ℕ) (out' : List ℕ) : Type 0 where
  pub answers : x ≡ answer_code (answer (draw_refusal columns rows n out) (drawn_faults columns rows seed n))
  pub writes : out' ≡ written (draw_refusal columns rows n out) (drawn_map columns rows seed n) out
