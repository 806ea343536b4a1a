-- Before the first send: a map without misplaced faults is one that refusals 1 to 5 let pass, so its marking serves routes. Assumes nothing.
use Rattle.std.proofs.Common.{◌≡◌, refl, sym, ap, ◌∙◌, Bool, false, List, ◌++◌, ℕ, ◌*◌, ◌≤◌, arith, length, drop, length-append, length-drop}
use Rattle.std.proofs.lemmas.List.{take_at}
use Rattle.mesh.specs.Mesh.{mesh}
use Rattle.mesh.specs.Tests.{first}
use Rattle.mesh.specs.Rounds.{marked}
use Rattle.mesh.specs.Blocks.{blocks}
use Rattle.mesh.specs.Maps.{misplaced, map_tests}
use Rattle.mesh.proofs.Maps.{good-size, good_length, accepted}
use Rattle.theory_blocks.proofs.Rounds.{marked-length}
use Rattle.theory_blocks.proofs.Listed.{blocks-within}
use Rattle.theory_blocks.proofs.Theorems.{obstacles}
use Rattle.nodes.specs.Sized.{Sized}
use Rattle.theory_sheet.specs.declared.Phase.TheVariants.{Faults, Sends}
use Rattle.theory_sheet.specs.Sheet.{is_misplaced, blocks_line, opening}
use Rattle.sheet_state.specs.declared.Sheet.{Sheet}
use Rattle.sheet_state.specs.declared.Says.TheVariants.{Blocks}
use Rattle.sheet_state.specs.Keeping.{map_of, state_of, Ready, Changes}
use Rattle.sheet_state.proofs.Phases.{faults-sends}
use Rattle.sheet_state.proofs.Faults.{fault-map-few}

module _ {s : Sheet} {map : List ℕ} (r : Ready s map) (e : s.phase ≡ Faults) where
  pub faults-sized : Sized s.columns s.rows (map_of s map)
  faults-sized =
      let f = r.faults e in
      record {
        few-columns = good-size s.columns f.good-columns;
        few-rows = good-size s.rows f.good-rows;
        size = good_length s.columns s.rows (map_of s map) f.good_length;
      }

  pub faults-few : s.columns * s.rows ≤ 4096
  faults-few = fault-map-few (r.faults e)

  -- with its faults allowed no refusal of a map is left
  faults-clear : misplaced s.columns s.rows (map_of s map) ≡ false → first (map_tests s.columns s.rows (map_of s map)) ≡ 0
  unfolding map_tests first
  faults-clear p =
      let f = r.faults e in
      rw (f.good-columns, f.good-rows, f.good_length, f.good-bytes, p)

  -- the marking stands in the place of the map
  module _ {new : List ℕ} (is-new : new ≡ (marked (mesh s.columns s.rows (map_of s map))).map) where
    abbrev after : List ℕ
    after = new ++ drop (s.columns * s.rows) map

    new-length : length new ≡ s.columns * s.rows
    new-length = ap length is-new ∙ marked-length (mesh s.columns s.rows (map_of s map)) ∙ faults-sized.size

    new-sized : Sized s.columns s.rows new
    new-sized =
        record { few-columns = faults-sized.few-columns; few-rows = faults-sized.few-rows; size = new-length }

    front : map_of s after ≡ new
    front = take_at new _ _ new-length

    pub marks-within : s.columns * s.rows ≤ length after
    marks-within = omega (arith, new-length, length-append new (drop (s.columns * s.rows) map))

    pub marks-sized : Sized s.columns s.rows (map_of s after)
    marks-sized = rw front new-sized

    after-length : length after ≡ length map
    after-length =
        let n = s.columns * s.rows in
        omega (arith, new-length, length-append new (drop n map), length-drop n map, faults-few, r.room)

    pub opened : {b : Bool} {k : ℕ} → b ≡ misplaced s.columns s.rows (map_of s map) → b ≡ false → k ≡ length (blocks (mesh s.columns s.rows (map_of s after))) →
        Changes (λ n. opening s.phase n (state_of s map)) (record { sheet = record { phase = Sends; columns = s.columns; rows = s.rows }; says = Blocks k }) after
    unfolding opening is_misplaced blocks_line
    opened is_b good is-k =
        let placed = sym is_b ∙ good in
        let stands = front ∙ is-new in
        record {
          steps = λ n. rw (e, placed, is-k, stands);
          few = omega (arith, is-k, blocks-within (mesh s.columns s.rows (map_of s after)), faults-few);
          ready =
              λ f.
              record {
                room = omega (arith, after-length, r.room);
                faults = λ g. faults-sends g refl;
                sends = λ g. rw stands (record { sized = rw (← is-new) new-sized; marking = record { obstacles = obstacles (accepted (faults-clear placed)) } });
              };
        }
