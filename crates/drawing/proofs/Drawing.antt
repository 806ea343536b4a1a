-- The state, the faults and the map after each draw. Assumes nothing.
use mathlib.Core.Path.{◌≡◌, refl, ap, ◌∙◌}
use mathlib.Core.Bool.{Bool, true, false, cond}
use mathlib.Core.List.{List}
use Prim.Native.Nat.{ℕ, ◌+◌, ◌*◌, ◌≤◌, ◌<◌}
use native.Mathlib.Numerals.{add-one}
use native.Mathlib.Omega.{arith}
use lib.Dec.{eqb}
use lib.ListN.{length, get_or, replicate}
use Rattle.mesh.specs.declared.Place.{Place}
use Rattle.mesh.proofs.Index.{few-nodes}
use Rattle.theory_draw.specs.Draws.{next_state, state_after, place_count, picked_place, drawn_places, index_of, fault_map, is_among, distinct}
use Rattle.theory_draw.specs.Drawing.{drawn_map, drawn_faults}
use Rattle.theory_draw.specs.Claims.{Allowed}
use Rattle.theory_draw.proofs.Theorems.{faults-are-few}
use Rattle.theory_draw.proofs.Draws.{next-below, picked-allowed, drawn-allowed}
use Rattle.theory_draw.proofs.FaultMaps.{index_on, byte_at}
use Rattle.theory_draw.proofs.Drawing.{map-length}
use Rattle.drawing.specs.Steps.{SetsFault}

-- of n draws i are made
pub record Drawing (columns rows seed n i state faults : ℕ) (map : List ℕ) : Type 0 where
  pub within : i ≤ n
  pub state-is : state ≡ state_after seed i
  pub faults-are : faults ≡ drawn_faults columns rows seed i
  pub map_is : map ≡ drawn_map columns rows seed i

-- every node is sound
pub drawing-none : {columns rows seed n : ℕ} (before : List ℕ) {map : List ℕ} → length before ≡ columns * rows →
    map ≡ replicate (length before) 0 → Drawing columns rows seed n 0 seed 0 map
unfolding state_after drawn_faults drawn_map drawn_places distinct fault_map
drawing-none before size cleared =
    record { within = omega arith; state-is = refl; faults-are = refl; map_is = cleared ∙ rw size }

-- a draw adds one fault at most
pub adds_one : {columns : ℕ} {p : Place} {map : List ℕ} {x : ℕ} {after : List ℕ} → SetsFault columns p map x after → x ≤ 1
adds_one {columns} {p} {map} s = rw s.counts (at_most (eqb (get_or map (index_of columns p) 0) 1))
  where
    at_most : (b : Bool) → cond b 0 1 ≤ 1
    at_most true = omega arith
    at_most false = omega arith

-- a place that was among them adds none
one_more : (b : Bool) {f x n : ℕ} → f ≡ n → x ≡ cond (eqb (cond b 1 0) 1) 0 1 → f + x ≡ cond b 0 1 + n
one_more true e h = omega arith
one_more false e h = omega arith

module _ {columns rows seed n i state faults : ℕ} {map : List ℕ} (d : Drawing columns rows seed n i state faults map) where
  pub drawn-size : length map ≡ columns * rows
  drawn-size = rw d.map_is (map-length columns rows seed i)

  pub drawn-few : faults ≤ i
  drawn-few = rw d.faults-are (faults-are-few columns rows seed i)

  module _ (some : 0 < place_count columns rows) {next : ℕ} (en : next ≡ next_state state) {p : Place} (ep : p ≡ picked_place columns rows next) where
    allowed-place : Allowed columns rows p
    allowed-place = rw ep (picked-allowed columns rows some next (rw en (next-below state)))

    pub index-fits : columns ≤ 64 → rows ≤ 64 → (index_of columns p < length map) × (index_of columns p < 4096)
    index-fits h k =
        let on = index_on columns rows p allowed-place in
        (omega (arith, drawn-size), omega (arith, few-nodes columns rows h k))

    pub drawing-more : {x : ℕ} {after : List ℕ} → i < n → SetsFault columns p map x after →
        Drawing columns rows seed n (i + 1) next (faults + x) after
    unfolding state_after drawn_faults drawn_map drawn_places distinct fault_map
    drawing-more h s =
        let now : next ≡ next_state (state_after seed i) = en ∙ ap next_state d.state-is in
        let here : p ≡ picked_place columns rows (next_state (state_after seed i)) = ep ∙ ap (picked_place columns rows) now in
        let ps = drawn_places columns rows seed i in
        let byte = byte_at columns rows p allowed-place ps (drawn-allowed columns rows seed i (λ h. some)) in
        record {
          within = omega arith;
          state-is = rw add-one now;
          faults-are = rw (add-one, ← here) (one_more (is_among p ps) d.faults-are (s.counts ∙ rw (d.map_is, byte)));
          map_is = s.sets ∙ rw (add-one, ← here, d.map_is);
        }
