-- How large the bound of demand 3 can be. Assumes nothing.
use Rattle.std.proofs.Common.{List, ℕ, ◌+◌, ◌-◌, ◌*◌, ◌≤◌, ◌<◌, mul-le-mul_left, arith}
use Rattle.mesh.specs.Blocks.{Block}
use Rattle.mesh.specs.Rules.{Trip}
use Rattle.mesh.specs.Walk.{distance, bound}
use Rattle.theory_blocks.proofs.Detours.{detours-bounded}
use Rattle.theory_walk.specs.Course.{Course, FreePlace}
use Rattle.theory_walk.specs.Claims.{most_hops}

distance-less : (a b n : ℕ) → a < n → b < n → distance a b ≤ n - 1
unfolding distance
distance-less a b n p q = omega arith

module _ {t : Trip} {bs : List Block} (course : Course t bs) {r c : ℕ} (source : FreePlace t r c) where
  -- by the mesh's numbers of columns and rows
  pub bound-fits : bound t bs r c ≤ (t.rows - 1) + (t.columns - 1) + 2 + (t.columns - 2) * (t.rows - 1)
  unfolding bound
  bound-fits =
      let down = distance-less r t.R t.rows source.row course.row in
      let across = distance-less c t.C t.columns source.column course.column in
      omega (arith, detours-bounded course.obstacles)

  -- on any mesh of document 01
  pub bound-few : t.columns ≤ 64 → t.rows ≤ 64 → bound t bs r c ≤ most_hops
  bound-few h k =
      let room : (t.columns - 2) * (t.rows - 1) ≤ (t.columns - 2) * 63 = mul-le-mul_left (t.columns - 2) (omega arith) in
      omega (arith, bound-fits)
