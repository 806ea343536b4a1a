-- A drawn map and the refusals: those of drawing before it, those of every operation after it. Assumes nothing.
use Rattle.std.proofs.Common.{◌≡◌, refl, ◌∙◌, false, List, ℕ, zero, suc, ◌*◌, ◌≤◌, arith, ltb-false, length, take, drop, take_at, drop_at, Ok}
use Rattle.mesh.specs.Tests.{first}
use Rattle.mesh.specs.Numbers.{returned, answer, written}
use Rattle.mesh.specs.Nodes.{how_many}
use Rattle.mesh.specs.Maps.{bad_size, map_tests}
use Rattle.mesh.proofs.Tests.{numbered, NoneHolds, first-none}
use Rattle.theory_draw.specs.Draws.{drawn_places}
use Rattle.theory_draw.specs.Drawing.{drawn_map, drawn_faults, bad_draws, draw_refusal, DrawsMap}
use Rattle.theory_draw.specs.Claims.{Passes}
use Rattle.theory_draw.proofs.Draws.{AllAllowed, some-places, drawn-allowed, drawn-length}
use Rattle.theory_draw.proofs.FaultMaps.{faults-length, faults-pass, distinct-faulty, distinct-few}

-- nothing is refused
pub record Unrefused (columns rows n : ℕ) (out : List ℕ) : Type 0 where
  pub good-columns : bad_size columns ≡ false
  pub good-rows : bad_size rows ≡ false
  pub good-draws : bad_draws columns rows n ≡ false
  pub room : columns * rows ≤ length out

pub unrefused : (columns rows n : ℕ) (out : List ℕ) → draw_refusal columns rows n out ≡ 0 → Unrefused columns rows n out
unfolding draw_refusal numbered NoneHolds
unrefused columns rows n out h =
    let (no-columns, (no_rows, (no-draws, (no_room, _)))) = first-none _ refl h in
    record { good-columns = no-columns; good-rows = no_rows; good-draws = no-draws; room = ltb-false _ _ no_room }

pub passes_on : (columns rows : ℕ) (map : List ℕ) → bad_size columns ≡ false → bad_size rows ≡ false → Passes columns rows map →
    first (map_tests columns rows map) ≡ 0
unfolding map_tests first
passes_on columns rows map p q pass = rw (p, q, pass.good_length, pass.good-bytes, pass.placed)

pub map-length : (columns rows seed n : ℕ) → length (drawn_map columns rows seed n) ≡ columns * rows
unfolding drawn_map
map-length columns rows seed n = faults-length columns rows (drawn_places columns rows seed n)

module _ (columns rows n : ℕ) (good : bad_draws columns rows n ≡ false) (seed : ℕ) where
  all-allowed : AllAllowed columns rows (drawn_places columns rows seed n)
  all-allowed = drawn-allowed columns rows seed n (some-places columns rows n good)

  pub map-passes : Passes columns rows (drawn_map columns rows seed n)
  unfolding drawn_map
  map-passes = faults-pass columns rows _ all-allowed

  pub faults-faulty : drawn_faults columns rows seed n ≡ how_many 1 (drawn_map columns rows seed n)
  unfolding drawn_map drawn_faults
  faults-faulty = distinct-faulty columns rows _ all-allowed

pub faults-few : (columns rows seed n : ℕ) → drawn_faults columns rows seed n ≤ n
unfolding drawn_faults
faults-few columns rows seed n =
    omega (arith, distinct-few (drawn_places columns rows seed n), drawn-length columns rows seed n)

-- a number of faults is answered only where nothing is refused
returned-none : (k n x : ℕ) → returned x ≡ answer k n → (k ≡ 0) × (x ≡ n)
unfolding answer
returned-none zero n x e = (refl, cc)
returned-none (suc k) n x e = let z : ◌≡◌ {A = ℕ} 0 1 = cc in absurd (omega arith)

-- a call that is answered by a number of faults
module _ {columns rows seed n : ℕ} {out : List ℕ} {x : ℕ} {after : List ℕ} (d : DrawsMap columns rows seed n out (Ok x) after) where
  none-refused : (draw_refusal columns rows n out ≡ 0) × (x ≡ drawn_faults columns rows seed n)
  none-refused = returned-none _ _ x d.answers

  free : Unrefused columns rows n out
  free = unrefused columns rows n out none-refused.0

  front : take (columns * rows) after ≡ drawn_map columns rows seed n
  unfolding written
  front =
      let map = drawn_map columns rows seed n in
      rw (rw none-refused.0 at d.writes) (take_at map (drop (length map) out) (columns * rows) (map-length columns rows seed n))

  pub rest-left : drop (columns * rows) after ≡ drop (columns * rows) out
  unfolding written
  rest-left =
      let map = drawn_map columns rows seed n in
      let size = map-length columns rows seed n in
      rw (rw none-refused.0 at d.writes) (drop_at map (drop (length map) out) (columns * rows) size ∙ rw size)

  pub front-passes : first (map_tests columns rows (take (columns * rows) after)) ≡ 0
  front-passes = rw front (passes_on columns rows _ free.good-columns free.good-rows (map-passes columns rows n free.good-draws seed))

  pub front-faulty : x ≡ how_many 1 (take (columns * rows) after)
  front-faulty = rw front (none-refused.1 ∙ faults-faulty columns rows n free.good-draws seed)
