-- Where a fault may lie, and what it says that none of refusals 1 to 5 applies. Assumes nothing.
use Rattle.std.proofs.Common.{◌≡◌, refl, true, false, List, ℕ, ◌+◌, ◌*◌, ◌/◌, ◌%◌, ◌≤◌, ◌<◌, zero-add, arith, eqb-true, ne_eqb, leb-true, ltb-true, ltb-false, le-leb, le-ltb, lt-ltb, eqb, ltb, length, get_or}
use Rattle.std.proofs.lemmas.Bool.{and_parts, or_parts, not-false}
use Rattle.mesh.specs.Mesh.{mesh, on_mesh}
use Rattle.mesh.specs.Tests.{first}
use Rattle.mesh.specs.Nodes.{is_bad, bad}
use Rattle.mesh.specs.Maps.{allowed, bad_size, bad_length, bad_byte, misplaced_at, misplaced, map_tests}
use Rattle.mesh.proofs.Tests.{numbered, NoneHolds, first-none}
use Rattle.mesh.proofs.Bools.{and_right}
use Rattle.mesh.proofs.Hops.{on-mesh}
use Rattle.mesh.proofs.Some.{none_passes}
use Rattle.mesh.proofs.Index.{index-row, index-column, index-within, few-nodes}

-- columns 2 to columns - 3 and rows 1 to rows - 2
pub record Inner (columns rows r c : ℕ) : Type 0 where
  pub south : 1 ≤ r
  pub north : r + 1 < rows
  pub west : 2 ≤ c
  pub east : c + 2 < columns

module _ (columns rows r c : ℕ) where
  pub allowed-told : allowed columns rows r c ≡ true → Inner columns rows r c
  unfolding allowed
  allowed-told e =
      let (p, q) = and_parts _ _ e in
      let (a, b) = and_parts _ _ p in
      let (d, f) = and_parts _ _ q in
      record { south = leb-true 1 r a; north = ltb-true (r + 1) rows b; west = leb-true 2 c d; east = ltb-true (c + 2) columns f }

  pub allowed-true : Inner columns rows r c → allowed columns rows r c ≡ true
  unfolding allowed
  allowed-true i =
      rw (le-leb 1 r i.south, lt-ltb (r + 1) rows i.north, le-leb 2 c i.west, lt-ltb (c + 2) columns i.east)

-- a mesh and a map that refusals 1 to 5 let pass
pub record Accepted (columns rows : ℕ) (map : List ℕ) : Type 0 where
  pub few-columns : columns ≤ 64
  pub few-rows : rows ≤ 64
  pub size : length map ≡ columns * rows
  pub bytes : (i : ℕ) → i < length map → get_or map i 0 ≤ 1
  pub placed : (r c : ℕ) → bad (mesh columns rows map) r c ≡ true → allowed columns rows r c ≡ true

pub good-size : (n : ℕ) → bad_size n ≡ false → n ≤ 64
unfolding bad_size
good-size n e = ltb-false 64 n (or_parts (eqb n 0) (ltb 64 n) e).1

-- and what is 1 to 64 is no bad size
pub size-good : (n : ℕ) → 1 ≤ n → n ≤ 64 → bad_size n ≡ false
unfolding bad_size
size-good n i j = rw (ne_eqb n 0 (λ e. absurd (omega arith)), le-ltb 64 n j)

-- a mesh that refusals 1 and 2 let pass has few nodes
pub good-few : (columns rows : ℕ) → bad_size columns ≡ false → bad_size rows ≡ false → columns * rows ≤ 4096
good-few columns rows p q = few-nodes columns rows (good-size columns p) (good-size rows q)

pub good_length : (columns rows : ℕ) (map : List ℕ) → bad_length columns rows map ≡ false → length map ≡ columns * rows
unfolding bad_length
good_length columns rows map e = eqb-true _ _ (not-false _ e)

good-bytes : (xs : List ℕ) → bad_byte xs ≡ false → (i : ℕ) → i < length xs → get_or xs i 0 ≤ 1
unfolding bad_byte
good-bytes xs e i h = ltb-false 1 _ (none_passes (λ i x. ltb 1 x) 0 xs e i h)

well-placed : (columns rows : ℕ) (xs : List ℕ) → misplaced columns rows xs ≡ false → (i : ℕ) → i < length xs →
    is_bad (get_or xs i 0) ≡ true → allowed columns rows (i / columns) (i % columns) ≡ true
unfolding misplaced misplaced_at
well-placed columns rows xs e i h b =
    not-false _ (and_right (is_bad (get_or xs i 0)) _ b (rw zero-add at (none_passes (misplaced_at columns rows) 0 xs e i h)))

pub map-numbered : (columns rows : ℕ) (map : List ℕ) → numbered (map_tests columns rows map) ≡ true
unfolding map_tests numbered
map-numbered columns rows map = refl

pub accepted : {columns rows : ℕ} {map : List ℕ} → first (map_tests columns rows map) ≡ 0 → Accepted columns rows map
unfolding bad NoneHolds map_tests
accepted {columns} {rows} {map} h =
    let (no-columns, (no_rows, (no_length, (no_bytes, (no-placed, _))))) = first-none _ (map-numbered columns rows map) h in
    let size = good_length columns rows map no_length in
    record {
      few-columns = good-size columns no-columns;
      few-rows = good-size rows no_rows;
      size = size;
      bytes = good-bytes map no_bytes;
      placed =
          λ r c e.
          let (on, b) = and_parts (on_mesh (mesh columns rows map) r c) _ e in
          let (p, q) = on-mesh (mesh columns rows map) r c on in
          let i : r * columns + c < length map = rw size (index-within columns r c q rows p) in
          rw (index-row columns r c q, index-column columns r c q) at (well-placed columns rows map no-placed (r * columns + c) i b);
    }
