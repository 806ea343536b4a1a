-- What is shown of a map drawn by number (document 02, E8). Assumes nothing.
use Rattle.std.proofs.Common.{Result, ◌≡◌, ◌⊎◌, ◌↔◌, true, false, List, ◌++◌, ℕ, suc, ◌+◌, ◌-◌, ◌*◌, ◌/◌, ◌%◌, ◌≤◌, ◌<◌, take, drop, Ok}
use Rattle.mesh.specs.declared.Place.{Place}
use Rattle.mesh.specs.Mesh.{place}
use Rattle.mesh.specs.Tests.{Test, first}
use Rattle.mesh.specs.Numbers.{refused, answer, written}
use Rattle.mesh.specs.Nodes.{how_many}
use Rattle.mesh.specs.Maps.{bad_size, map_tests}
use Rattle.mesh.proofs.Tests.{clear_next}
use Rattle.mesh.proofs.Maps.{map-numbered}
use Rattle.theory_draw.specs.declared.DrawRefusal.{DrawRefusal}
use Rattle.theory_draw.specs.Draws.{state_after, place_count, place_numbered, picked, index_of}
use Rattle.theory_draw.specs.Drawing.{drawn_map, drawn_faults, drawn_answer, bad_draws, draw_refusal, DrawsMap}
use Rattle.theory_draw.specs.Claims.{Allowed, OneNumber, Undrawable, Passes}
use Rattle.theory_draw.proofs.Numbering as numbering
use Rattle.theory_draw.proofs.Numbers as numbers
use Rattle.theory_draw.proofs.Draws.{draws-refused, picked-below, state-below}
use Rattle.theory_draw.proofs.Drawing.{passes_on, map-passes, faults-faulty, faults-few, front-passes, front-faulty, rest-left}

-- The numbers of the allowed places: one to one.
module _ (columns rows : ℕ) where
  -- each number below their number is that of an allowed place
  pub numbered-are-allowed : (k : ℕ) → k < place_count columns rows → Allowed columns rows (place_numbered columns rows k)
  numbered-are-allowed = numbers.numbered-allowed columns rows

  -- and each allowed place has exactly one
  pub each-has-one-number : (p : Place) → Allowed columns rows p → OneNumber columns rows p
  each-has-one-number = numbers.one_number columns rows

  -- a higher number is later in the map: further east in the same row, or in a higher row
  pub numbered-in-order : (j k : ℕ) → j < k → k < place_count columns rows →
      index_of columns (place_numbered columns rows j) < index_of columns (place_numbered columns rows k)
  numbered-in-order = numbers.numbered-in-order columns rows

  -- how many there are, and which has a number, worked out
  pub place-count : place_count columns rows ≡ (rows - 2) * (columns - 4)
  place-count = numbering.place-count columns rows

  pub place-of-number : (k : ℕ) → k < place_count columns rows → place_numbered columns rows k ≡ place (k / (columns - 4) + 1) (k % (columns - 4) + 2)
  place-of-number k h = numbering.place-of-number columns rows k (rw (numbering.place-count columns rows) at h)

  -- where there is none
  pub no_place : place_count columns rows ≡ 0 ↔ (columns < 5) ⊎ (rows < 3)
  no_place = numbers.no_place columns rows

  -- so where refusal 24 applies
  pub refusal-24 : (n : ℕ) → bad_draws columns rows n ≡ true ↔ Undrawable columns rows n
  refusal-24 = draws-refused columns rows

  -- whatever the seed, each draw picks one of the numbers
  pub picked-is-a-number : 0 < place_count columns rows → (seed n : ℕ) →
      picked (place_count columns rows) (state_after seed (suc n)) < place_count columns rows
  picked-is-a-number some seed n = picked-below _ _ some (state-below seed n)

-- A drawn map, where refusal 24 does not apply, whatever the seed.
module _ (columns rows n : ℕ) (good : bad_draws columns rows n ≡ false) (seed : ℕ) where
  -- it passes refusals 3 to 5
  pub drawn-passes : Passes columns rows (drawn_map columns rows seed n)
  drawn-passes = map-passes columns rows n good seed

  -- so every operation takes it, and goes on to its other tests
  pub drawn-is-taken : bad_size columns ≡ false → bad_size rows ≡ false → (others : List Test) →
      first (map_tests columns rows (drawn_map columns rows seed n) ++ others) ≡ first others
  drawn-is-taken p q others = clear_next _ others (map-numbered columns rows _) (passes_on columns rows _ p q drawn-passes)

  -- its number of distinct faults is that of its faulty nodes
  pub faults-are-counted : drawn_faults columns rows seed n ≡ how_many 1 (drawn_map columns rows seed n)
  faults-are-counted = faults-faulty columns rows n good seed

-- there are at most as many as draws
pub faults-are-few : (columns rows seed n : ℕ) → drawn_faults columns rows seed n ≤ n
faults-are-few = faults-few

-- Of any call that keeps its promise: where a refusal applies, the first that does is the answer, and no byte is altered.
pub else-refused : {columns rows seed n : ℕ} {out : List ℕ} {r : Result ℕ DrawRefusal} {after : List ℕ} → DrawsMap columns rows seed n out r after →
    {k : ℕ} → draw_refusal columns rows n out ≡ suc k → (drawn_answer r ≡ refused (suc k)) × (after ≡ out)
unfolding answer written
else-refused does e = (rw e at does.answers, rw e at does.writes)

-- Of one that answers a number of faults, and the first columns × rows bytes of its output:
module _ {columns rows seed n : ℕ} {out : List ℕ} {x : ℕ} {after : List ℕ} (d : DrawsMap columns rows seed n out (Ok x) after) where
  -- every operation takes them as its map
  pub output-is-taken : (others : List Test) → first (map_tests columns rows (take (columns * rows) after) ++ others) ≡ first others
  output-is-taken others = clear_next _ others (map-numbered columns rows _) (front-passes d)

  -- the answer is their number of faulty nodes
  pub answer-is-counted : x ≡ how_many 1 (take (columns * rows) after)
  answer-is-counted = front-faulty d

  -- and the bytes beyond them are as they were
  pub rest-is-left : drop (columns * rows) after ≡ drop (columns * rows) out
  rest-is-left = rest-left d
