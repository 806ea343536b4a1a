-- Lawful hops by what is to go, and where they lead. Assumes nothing.
use Rattle.std.proofs.Common.{Option, Some, ◌≡◌, true, false, List, ℕ, suc, ◌+◌, ◌-◌, ◌≤◌, arith, lt-ltb, le-leb}
use Rattle.mesh.specs.declared.Heading.{Heading}
use Rattle.mesh.specs.declared.Heading.TheVariants.{North as N, South as S, West as W}
use Rattle.mesh.specs.Headings.{row_after, column_after, opposite}
use Rattle.mesh.specs.Nodes.{ahead}
use Rattle.mesh.specs.Blocks.{Block}
use Rattle.mesh.specs.Rules.{Trip, blocked}
use Rattle.mesh.specs.Hops.{stays, lawful}
use Rattle.mesh.proofs.Hops.{state}
use Rattle.theory_walk.specs.Course.{Course}
use Rattle.theory_walk.proofs.Coordinates.{Off, north, south, To, east, west}
use Rattle.theory_walk.proofs.Crossing.{reach, Crosses}
use Rattle.theory_walk.proofs.Turns.{Permits}

-- hop h from (r, c) after l is lawful and leads to where M holds
pub record Goes (t : Trip) (M : ℕ → ℕ → Option Heading → Type 0) (r c : ℕ) (l : Option Heading) (h : Heading) : Type 0 where
  pub lawfully : lawful t (state r c l) h ≡ true
  pub then : M (row_after h r) (column_after h c) (Some h)

module _ {t : Trip} {M : ℕ → ℕ → Option Heading → Type 0} {l : Option Heading} {r c : ℕ} where
  goes_by : {h : Heading} → stays t.columns t.rows h r c ≡ true → blocked t h 1 r c ≡ false → Permits t c l h →
      M (row_after h r) (column_after h c) (Some h) → Goes t M r c l h
  unfolding lawful
  goes_by s b f m = record { lawfully = rw (s, b, f); then = m }

  -- to the south and west there is a row and a column 0 to mind
  goes_down : 1 ≤ r → t.bad (r - 1) c ≡ false → Permits t c l S → M (r - 1) c (Some S) → Goes t M r c l S
  unfolding stays blocked ahead row_after column_after
  goes_down h b f m = goes_by (le-leb 1 r h) (rw (le-leb 1 r h) b) f m

  pub goes-west : 1 ≤ c → t.bad r (c - 1) ≡ false → Permits t c l W → M r (c - 1) (Some W) → Goes t M r c l W
  unfolding stays blocked ahead row_after column_after
  goes-west h b f m = goes_by (le-leb 1 c h) (rw (le-leb 1 c h) b) f m

  goes-up : r + 2 ≤ t.rows → t.bad (r + 1) c ≡ false → Permits t c l N → M (r + 1) c (Some N) → Goes t M r c l N
  unfolding stays blocked ahead row_after column_after
  goes-up h b f m = goes_by (lt-ltb (r + 1) t.rows (omega arith)) b f m

module _ {t : Trip} {M : ℕ → ℕ → Option Heading → Type 0} {bs : List Block} where
  pub goes-side : {s : Heading} {l : Option Heading} {r c x : ℕ} → Course t bs → To t c x s → 1 ≤ x → t.bad r (column_after s c) ≡ false → Permits t c l s →
      M r (column_after s c) (Some s) → Goes t M r c l s
  unfolding stays blocked ahead row_after column_after
  goes-side {c = c} k (east e) x b f m = goes_by (lt-ltb (c + 1) t.columns (let h = k.column in omega arith)) b f m
  goes-side k (west e) x b f m = goes-west (omega arith) b f m

  pub goes_in : {a : Heading} {l : Option Heading} {r c i : ℕ} → Course t bs → Off t r (suc i) a → t.bad (row_after (opposite a) r) c ≡ false →
      Permits t c l (opposite a) →
      M (row_after (opposite a) r) c (Some (opposite a)) → Goes t M r c l (opposite a)
  unfolding row_after opposite
  goes_in k (north e) b f m = goes_down (omega arith) b f m
  goes_in k (south e) b f m = goes-up (let h = k.row in omega arith) b f m

  pub goes-out : {s a : Heading} {l : Option Heading} {b : Block} {r c i : ℕ} → Crosses t bs s b → Off t r i a → i ≤ reach t a b →
      t.bad (row_after a r) c ≡ false → Permits t c l a → M (row_after a r) c (Some a) → Goes t M r c l a
  unfolding row_after reach
  goes-out q (north e) h b f m = goes-up (omega arith) b f m
  goes-out q (south e) h b f m = goes_down (omega arith) b f m
