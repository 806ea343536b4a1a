-- From a source that is shut in, or meets the west edge, some hop by the rules is unlawful. Assumes nothing.
use Rattle.std.proofs.Common.{Option, Some, None, ◌≡◌, true, false, not, ◌⊎◌, inl, inr, List, ℕ, zero, suc, ◌+◌, ◌-◌, ◌≤◌, ◌<◌, arith, ne_eqb, ltb-true, eqb, leb, ltb}
use Rattle.std.proofs.lemmas.Bool.{and_parts, eqb-false, not-true}
use Rattle.std.proofs.Math.Bool.{and-false}
use Rattle.mesh.specs.declared.Heading.{Heading}
use Rattle.mesh.specs.declared.Heading.TheVariants.{North as N, West as W}
use Rattle.mesh.specs.Headings.{row_after, column_after}
use Rattle.mesh.specs.Nodes.{ahead}
use Rattle.mesh.specs.Blocks.{Block}
use Rattle.mesh.specs.Rules.{Trip, blocked, own, again, at_destination}
use Rattle.mesh.specs.Hops.{fresh, moved, stays, lawful}
use Rattle.mesh.specs.Walk.{arrived, hop_at}
use Rattle.mesh.specs.Mesh.{place}
use Rattle.mesh.proofs.Bools.{true-false}
use Rattle.mesh.proofs.Hops.{state}
use Rattle.theory_walk.specs.Course.{Course}
use Rattle.theory_walk.specs.Claims.{Fails}
use Rattle.theory_walk.proofs.Coordinates.{up, to-west, Sight, left, Off, To, west, not_own, off-by, here-off, to-other, sight-to}
use Rattle.theory_walk.proofs.Crossing.{reach, near, Crosses, far-near, off-out, inside-if-bad}
use Rattle.theory_walk.proofs.Rules.{first, by-in_row, by-leaving, by-across}
use Rattle.theory_walk.proofs.Turns.{no-turn-west}
use Rattle.theory_walk.proofs.InRow.{met_by}
use Rattle.theory_walk.proofs.Walks.{FailsBy, fails_by}

module _ (t : Trip) (r c : ℕ) where
  other-column : (l : Option Heading) → (c ≡ t.C → ⊥) → arrived t (state r c l) ≡ false
  unfolding arrived at_destination
  other-column l h = rw (ne_eqb c t.C h, and-false)

  other_row : (l : Option Heading) → (r ≡ t.R → ⊥) → arrived t (state r c l) ≡ false
  unfolding arrived at_destination
  other_row l h = rw (ne_eqb r t.R h)

  turn-barred : not_own t W c ≡ 1 → lawful t (state r c (Some N)) W ≡ false
  unfolding lawful
  turn-barred e = rw (no-turn-west t c e, and-false, and-false)

  way-barred : blocked t W 1 r c ≡ true → lawful t (fresh (place r c)) W ≡ false
  unfolding lawful
  way-barred e = rw (e, and-false)

  pub edge-barred : c ≡ 0 → lawful t (fresh (place r c)) W ≡ false
  unfolding lawful stays
  edge-barred h = rw h

  west-forbidden : t.west c ≡ false → not_own t W c ≡ 1
  unfolding not_own own
  west-forbidden e = rw e

  -- rule 6 sends the packet west
  pub west-fails : (r ≡ t.R → ⊥) → t.west c ≡ false → lawful t (fresh (place r c)) W ≡ false → Fails t (fresh (place r c))
  unfolding hop_at
  west-fails ne e f =
      let a = west-forbidden e in
      fails_by t (other_row None ne) (by-across (FailsBy t (fresh (place r c))) c first (off-by r ne).off (λ x y. absurd (omega arith)) (λ x. inl f))

module _ {t : Trip} {bs : List Block} (course : Course t bs) where
  -- rule 3 sends it north beside the block, or west in a column where NW is forbidden
  north-by : {b : Block} {k r c x : ℕ} → Crosses t bs W b → Off t r (suc k) N → k ≤ reach t N b → To t c x W → x ≡ near t W b + 1 → not_own t W c ≡ 1 →
      (suc k ≤ reach t N b → Fails t (state (r + 1) c (Some N))) → Fails t (state r c (Some N))
  unfolding hop_at moved row_after column_after
  north-by {b} {k} {r} {c} {x} q o h to f a next =
      let order = far-near to-west q in
      fails_by t (other-column t r c (Some N) (to-other to (omega arith)))
      (by-leaving (FailsBy t (state r c (Some N))) o to (omega arith)
      (λ p. inr (next (inside-if-bad course q o (sight-to to p.sight (omega arith)) (omega arith) p.bad).rows))
      (λ p. inl (turn-barred t r c a)))

  north-fails : {b : Block} {k r c x : ℕ} (m : ℕ) → Crosses t bs W b → Off t r (suc k) N → k + m ≡ reach t N b → To t c x W →
      x ≡ near t W b + 1 → not_own t W c ≡ 1 →
      Fails t (state r c (Some N))
  unfolding row_after
  north-fails {b = b} {k = k} {r = r} {c = c} {x = x} zero q o e to f a = north-by q o (omega arith) to f a (λ h. absurd (omega arith))
  north-fails {b = b} {k = k} {r = r} {c = c} {x = x} (suc m) q o e to f a = north-by q o (omega arith) to f a (λ h. north-fails {b = b} {k = suc k} {r = r + 1} {c = c} {x = x} m q (off-out q o h) (omega arith) to f a)

  -- rule 2 sends it north
  row-fails : {r c : ℕ} → t.bad r c ≡ false → t.west c ≡ false → blocked t W 1 r c ≡ true → r ≡ t.R → t.C < c → Fails t (fresh (place r c))
  unfolding hop_at moved row_after column_after again blocked ahead
  row-fails {r} {c} free barred wall e h =
      let to : To t c (c - t.C) W = west (omega arith) in
      let a = west-forbidden t r c barred in
      let b = (and_parts (leb 1 c) _ wall).1 in
      let g = course.obstacles.in-block r (c - 1) b in
      let v : Sight c 1 (c - 1) W = left (omega arith) in
      let m = met_by course g.listed e g.within to (omega arith) free (omega arith) v in
      fails_by t (other-column t r c None (omega arith))
      (by-in_row (FailsBy t (fresh (place r c))) None e to (omega arith)
      (λ p. inr (north-fails (reach t N g.block) m.crosses (off-out m.crosses (here-off e up) (omega arith)) (omega arith) to (omega arith) a))
      (λ p. true-false b (p.free 1 (c - 1) (omega arith) (omega arith) v)))

  pub shut_by : {r c : ℕ} → Dec (r ≡ t.R) → t.bad r c ≡ false → t.west c ≡ false → blocked t W 1 r c ≡ true →
      (not (eqb r t.R) ≡ true) ⊎ (ltb t.C c ≡ true) → Fails t (fresh (place r c))
  shut_by {r} {c} (no ne) free barred wall o = west-fails t r c ne barred (way-barred t r c wall)
  shut_by {r} (yes e) free barred wall (inl ne) = absurd (eqb-false r t.R (not-true _ ne) e)
  shut_by {r} {c} (yes e) free barred wall (inr h) = row-fails free barred wall e (ltb-true t.C c h)
