-- The places where faults are allowed are closed, so the marking of allowed faults keeps to them and every ring fits the mesh. Assumes nothing.
use Rattle.std.proofs.Common.{◌≡◌, Bool, true, ℕ, suc, pred, ◌+◌, arith}
use Rattle.mesh.specs.Blocks.{Block}
use Rattle.mesh.specs.Maps.{allowed}
use Rattle.mesh.proofs.Maps.{allowed-told, allowed-true}
use Rattle.theory_blocks.specs.Marking.{Closed, Holds}
use Rattle.theory_blocks.specs.Blocks.{Fits}
use Rattle.theory_blocks.specs.Obstacles.{Walled}
use Rattle.theory_blocks.proofs.Rules.{Reason, between-two, crossed, reasons-closed}

module _ (columns rows : ℕ) where
  allowed-reason : (r c : ℕ) → Reason (allowed columns rows) r c → allowed columns rows r c ≡ true
  allowed-reason r c (between-two y q w e) =
      let i = allowed-told columns rows r y w in
      let j = allowed-told columns rows r (suc c) e in
      allowed-true columns rows r c (omega arith)
  allowed-reason r c (crossed u a) =
      let i = allowed-told columns rows u.place c u.here in
      let j = allowed-told columns rows r a.place a.here in
      allowed-true columns rows r c (omega arith)

  pub allowed-closed : Closed columns rows (allowed columns rows)
  allowed-closed = reasons-closed columns rows (allowed columns rows) allowed-reason

  pub walled-fits : {B : ℕ → ℕ → Bool} → Holds B (allowed columns rows) → {b : Block} → Walled B b → Fits columns rows b
  walled-fits h {b} k =
      let i = allowed-told _ _ _ _ (h.holds _ _ (k.inside b.row b.column (omega arith))) in
      let j = allowed-told _ _ _ _ (h.holds _ _ (k.inside (pred (b.height + b.row)) (pred (b.width + b.column)) (omega arith))) in
      omega arith
