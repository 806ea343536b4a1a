-- A map drawn by number (document 02, E8): what is answered and written. Assumes nothing.
use Rattle.std.specs.Prelude.{◌≡◌, Bool, ◌&&◌, ◌||◌, List, [], ◌∷◌, ℕ, ◌*◌, ltb, eqb, length, Result, Ok, Err}
use Rattle.mesh.specs.Tests.{◌gives◌, first}
use Rattle.mesh.specs.Numbers.{number, Answer, refused, returned, answer, written}
use Rattle.mesh.specs.Maps.{bad_size}
use Rattle.theory_draw.specs.declared.DrawRefusal.{DrawRefusal}
use Rattle.theory_draw.specs.declared.DrawRefusal.TheVariants.{Refused, BadDraws}
use Rattle.theory_draw.specs.Draws.{place_count, drawn_places, fault_map, distinct}

-- the map that n draws from a seed make
unfoldable pub drawn_map : ℕ → ℕ → ℕ → ℕ → List ℕ
drawn_map columns rows seed n = fault_map columns rows (drawn_places columns rows seed n)

-- its number of distinct faults
unfoldable pub drawn_faults : ℕ → ℕ → ℕ → ℕ → ℕ
drawn_faults columns rows seed n = distinct (drawn_places columns rows seed n)

-- the number of each refusal
abbrev pub draw_refusal_number : DrawRefusal → ℕ
draw_refusal_number (Refused r) = number r
draw_refusal_number BadDraws = 24

-- what it answers, in the paper's terms
abbrev pub drawn_answer : Result ℕ DrawRefusal → Answer
drawn_answer (Ok n) = returned n
drawn_answer (Err e) = refused (draw_refusal_number e)

-- 24: more than 1,000 draws, or any draw where no place is allowed
unfoldable pub bad_draws : ℕ → ℕ → ℕ → Bool
bad_draws columns rows n = ltb 1000 n || (ltb 0 n && eqb (place_count columns rows) 0)

-- 1, 2; then 24; then 10, output shorter than columns × rows
unfoldable pub draw_refusal : ℕ → ℕ → ℕ → List ℕ → ℕ
draw_refusal columns rows n out =
    first
    (bad_size columns gives 1 ∷
    bad_size rows gives 2 ∷
    bad_draws columns rows n gives 24 ∷
    ltb (length out) (columns * rows) gives 10 ∷
    [])

-- its promise: it returns the number of distinct faults, and writes the map
pub record DrawsMap (columns rows seed n : ℕ) (out : List ℕ) (r : Result ℕ DrawRefusal) (after : List ℕ) : Type 0 where
  pub answers : drawn_answer r ≡ answer (draw_refusal columns rows n out) (drawn_faults columns rows seed n)
  pub writes : after ≡ written (draw_refusal columns rows n out) (drawn_map columns rows seed n) out
