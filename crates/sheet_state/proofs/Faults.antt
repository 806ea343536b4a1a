-- The mesh line makes a map without faults, and a fault line adds one: neither leaves room for refusals 1 to 4. Assumes nothing.
use Rattle.std.proofs.Common.{◌≡◌, refl, sym, ◌∙◌, Bool, false, List, ◌++◌, ℕ, ◌+◌, ◌*◌, ◌≤◌, ◌<◌, ltb, length, set, take, drop, replicate, length-set, length-append, length-drop, arith}
use Rattle.std.proofs.lemmas.Bool.{lt-ltb}
use Rattle.std.proofs.lemmas.List.{take_at, length-replicate}
use Rattle.std.proofs.Math.Seq.{take-set-lt}
use Rattle.mesh.specs.declared.Place.{Place}
use Rattle.mesh.specs.Mesh.{on_mesh}
use Rattle.mesh.specs.Maps.{bad_size, bad_length, bad_byte}
use Rattle.mesh.specs.Requests.{off_mesh}
use Rattle.mesh.proofs.Index.{index-within}
use Rattle.mesh.proofs.Maps.{good-few}
use Rattle.mesh.proofs.NoFaults.{no-faults-length, no-faults-bytes}
use Rattle.mesh.proofs.Some.{none-set}
use Rattle.theory_sheet.specs.declared.Phase.TheVariants.{Start, Faults}
use Rattle.theory_sheet.specs.Sheet.{State, mesh_line, fault_line}
use Rattle.sheet_state.specs.declared.Sheet.{Sheet}
use Rattle.sheet_state.specs.declared.Change.{Change}
use Rattle.sheet_state.specs.declared.Says.TheVariants.{Nothing}
use Rattle.sheet_state.specs.Keeping.{state_of, FaultMap, Ready, unchanged, Changes}
use Rattle.sheet_state.proofs.Phases.{faults-sends}

no-faults : (columns rows : ℕ) → bad_size columns ≡ false → bad_size rows ≡ false → FaultMap columns rows (replicate (columns * rows) 0)
no-faults columns rows p q =
    record { good-columns = p; good-rows = q; good_length = no-faults-length columns rows; good-bytes = no-faults-bytes columns rows }

one-fault : {columns rows : ℕ} {map : List ℕ} (i : ℕ) → FaultMap columns rows map → FaultMap columns rows (set map i 1)
unfolding bad_length bad_byte
one-fault {columns} {rows} {map} i f =
    record {
      good-columns = f.good-columns;
      good-rows = f.good-rows;
      good_length = rw (length-set map i 1) f.good_length;
      good-bytes = none-set (λ i x. ltb 1 x) 0 map i 1 refl f.good-bytes;
    }

pub fault-map-few : {columns rows : ℕ} {map : List ℕ} → FaultMap columns rows map → columns * rows ≤ 4096
fault-map-few {columns} {rows} f = good-few columns rows f.good-columns f.good-rows

-- the mesh line
module _ (columns rows : ℕ) {b d : Bool} (is_b : b ≡ bad_size columns) (good-columns : b ≡ false) (is-d : d ≡ bad_size rows) (good-rows : d ≡ false) where
  pub mesh-few : columns * rows ≤ 4096
  mesh-few = good-few columns rows (sym is_b ∙ good-columns) (sym is-d ∙ good-rows)

  pub mesh-made : (t : State) (map : List ℕ) {after : List ℕ} → t.phase ≡ Start → 4096 ≤ length map → after ≡ replicate (columns * rows) 0 ++ drop (columns * rows) map →
      Changes (λ n. mesh_line t.phase n t columns rows) (record { sheet = record { phase = Faults; columns = columns; rows = rows }; says = Nothing }) after
  unfolding mesh_line
  mesh-made t map {after} first room e =
      let n = columns * rows in
      let none = replicate {A = ℕ} n 0 in
      let size = length-replicate {A = ℕ} n 0 in
      let cleared : take n after ≡ none = rw e (take_at none _ _ size) in
      record {
        steps = λ n. rw (first, ← is_b, good-columns, ← is-d, good-rows, cleared);
        few = omega arith;
        ready =
            λ f.
            record {
              room = rw (e, length-append) (omega (arith, size, length-drop n map, mesh-few));
              faults = λ g. rw cleared (no-faults columns rows (sym is_b ∙ good-columns) (sym is-d ∙ good-rows));
              sends = λ g. faults-sends refl g;
            };
      }

-- a fault on the mesh
module _ {s : Sheet} {map : List ℕ} (r : Ready s map) (e : s.phase ≡ Faults) (p : Place) (row : p.row.0 < s.rows) (column : p.column.0 < s.columns) where
  pub fault-index : (p.row.0 * s.columns + p.column.0 < s.columns * s.rows) × (s.columns * s.rows ≤ 4096)
  fault-index = (index-within s.columns p.row.0 p.column.0 column s.rows row, fault-map-few (r.faults e))

  pub fault-set : {x : Change} → x ≡ unchanged s Nothing → Changes (λ n. fault_line s.phase n (state_of s map) p) x (set map (p.row.0 * s.columns + p.column.0) 1)
  unfolding fault_line off_mesh on_mesh
  fault-set q =
      let i = p.row.0 * s.columns + p.column.0 in
      let set-in = take-set-lt (s.columns * s.rows) map i 1 fault-index.0 in
      rw q
      record {
        steps = λ n. rw (e, lt-ltb p.row.0 s.rows row, lt-ltb p.column.0 s.columns column, set-in);
        few = omega arith;
        ready =
            λ f.
            record {
              room = rw (length-set map i 1) r.room;
              faults = λ g. rw set-in (one-fault i (r.faults g));
              sends = λ g. faults-sends e g;
            };
      }
