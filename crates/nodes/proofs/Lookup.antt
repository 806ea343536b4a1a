-- The definitions as the code asks for them, case by case. Assumes nothing.
use mathlib.Core.Path.{◌≡◌, refl}
use mathlib.Core.Bool.{Bool, true, false, not}
use mathlib.Core.List.{List}
use Prim.Native.Nat.{ℕ, zero, suc, ◌+◌, ◌-◌, ◌*◌, ◌≤◌, ◌<◌}
use native.Mathlib.Nat.{mul-le-mul_right}
use native.Mathlib.Omega.{arith}
use borrow.Author.Tests.{lt-ltb, le-leb, lt-leb}
use lib.Dec.{eqb, eqb-suc-zero}
use lib.ListN.{length, get_or}
use Rattle.mesh.specs.declared.Heading.{Heading}
use Rattle.mesh.specs.declared.Heading.TheVariants.{East as E, North as N, South as S, West as W}
use Rattle.mesh.specs.declared.Place.{Place}
use Rattle.mesh.specs.Mesh.{Mesh, mesh, on_mesh}
use Rattle.mesh.specs.Nodes.{is_bad, bad, ahead}
use Rattle.mesh.specs.Requests.{off_mesh}
use Rattle.mesh.proofs.Index.{index-within, few-nodes}
use Rattle.mesh.proofs.Requests.{on_row, on-column}
use Rattle.nodes.specs.Sized.{Sized, OnMesh}

pub is_bad-test : (x : ℕ) → not (eqb x 0) ≡ is_bad x
unfolding is_bad
is_bad-test zero = refl
is_bad-test (suc x) = rw (eqb-suc-zero x)

-- a row of a map
pub row_fits : {columns rows r : ℕ} {map : List ℕ} → Sized columns rows map → r < rows →
    (r * columns + columns ≤ length map) × (r * columns + columns ≤ 4096)
row_fits {columns} {rows} {r} s h =
    let below : (r + 1) * columns ≤ rows * columns = mul-le-mul_right columns (omega arith) in
    let few = few-nodes columns rows s.few-columns s.few-rows in
    (omega (arith, s.size), omega arith)

pub at-fits : {columns rows : ℕ} {map : List ℕ} {p : Place} → Sized columns rows map → OnMesh (mesh columns rows map) p →
    (p.row.0 * columns + p.column.0 < length map) × (p.row.0 * columns + p.column.0 < 4096)
at-fits {columns} {rows} {map} {p} s on =
    let i = index-within columns p.row.0 p.column.0 on.column rows on.row in
    let j = few-nodes columns rows s.few-columns s.few-rows in
    (omega (arith, s.size), omega arith)

module _ (w : Mesh) (r c : ℕ) where
  pub bad-here : r < w.rows → c < w.columns → not (eqb (get_or w.map (r * w.columns + c) 0) 0) ≡ bad w r c
  unfolding bad on_mesh
  bad-here p q = rw (lt-ltb r w.rows p, lt-ltb c w.columns q) (is_bad-test _)

  pub bad-off : on_mesh w r c ≡ false → false ≡ bad w r c
  unfolding bad
  bad-off h = rw h

-- looking ahead, by the heading
module _ (B : ℕ → ℕ → Bool) (k r c : ℕ) {h : Heading} where
  pub ahead-east : {x : Bool} → h ≡ E → x ≡ B r (c + k) → x ≡ ahead B h k r c
  unfolding ahead
  ahead-east e q = rw e q

  pub ahead-north : {x : Bool} → h ≡ N → x ≡ B (r + k) c → x ≡ ahead B h k r c
  unfolding ahead
  ahead-north e q = rw e q

  pub ahead-south : {x : Bool} → h ≡ S → k ≤ r → x ≡ B (r - k) c → x ≡ ahead B h k r c
  unfolding ahead
  ahead-south e o q = rw (e, le-leb k r o) q

  pub ahead-west : {x : Bool} → h ≡ W → k ≤ c → x ≡ B r (c - k) → x ≡ ahead B h k r c
  unfolding ahead
  ahead-west e o q = rw (e, le-leb k c o) q

  pub ahead-off-south : h ≡ S → r < k → false ≡ ahead B h k r c
  unfolding ahead
  ahead-off-south e o = rw (e, lt-leb k r o)

  pub ahead-off-west : h ≡ W → c < k → false ≡ ahead B h k r c
  unfolding ahead
  ahead-off-west e o = rw (e, lt-leb k c o)

-- a place that refusal 6 lets pass
pub on-mesh : (w : Mesh) (p : Place) → off_mesh w p ≡ false → OnMesh w p
on-mesh w p on = record { row = on_row w p on; column = on-column w p on }

-- a place that is found on the mesh
pub has-place : (w : Mesh) (p : Place) → on_mesh w p.row.0 p.column.0 ≡ true → OnMesh w p
unfolding off_mesh
has-place w p on = on-mesh w p (rw on)
