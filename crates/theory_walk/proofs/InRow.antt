-- Straight travel in the destination's row, until a block stops the packet. Assumes nothing.
use Rattle.std.proofs.Common.{Option, Some, ◌≡◌, true, false, List, ℕ, suc, ◌+◌, ◌-◌, ◌≤◌, ◌<◌, max, arith}
use Rattle.std.proofs.Math.Decide.{dec_le}
use Rattle.mesh.specs.declared.Heading.{Heading}
use Rattle.mesh.specs.Headings.{column_after}
use Rattle.mesh.specs.Blocks.{Block}
use Rattle.mesh.specs.Rules.{Trip, hop}
use Rattle.mesh.proofs.Bools.{true-false}
use Rattle.theory_blocks.specs.Blocks.{Within}
use Rattle.theory_blocks.specs.Obstacles.{Listed}
use Rattle.theory_walk.specs.Course.{Course}
use Rattle.theory_walk.proofs.Bools.{le-by-contradiction}
use Rattle.theory_walk.proofs.Coordinates.{Sight, right, left, To, east, west, not_own, not_own-le, level, here-off, to-next, sight-one, sight-two, alternate-next}
use Rattle.theory_walk.proofs.Crossing.{free-without, far, near, Crosses, reach-le, far-near, off-out, free-close}
use Rattle.theory_walk.proofs.Rules.{Open, by-in_row}
use Rattle.theory_walk.proofs.Turns.{Ready, upright-again, straight, ready}
use Rattle.theory_walk.proofs.Lawful.{goes-side, goes-out}
use Rattle.theory_walk.proofs.Weights.{rest-on, rest-cut}
use Rattle.theory_walk.proofs.Modes.{InRow, in_row, leaving, Next}

-- a block b with (r, j) in it, where j is in sight of c
module _ {t : Trip} where
  -- it begins before c or it holds (r, c)
  sight-within : {s : Heading} {b : Block} {x r c i j : ℕ} → To t c x s → 1 ≤ x → Sight c i j s → Within b r j → x ≤ near t s b → Within b r c
  unfolding near
  sight-within (east e) one (right f) h n = omega arith
  sight-within (west e) one (left f) h n = omega arith

  sight-near : {s : Heading} {b : Block} {x r c i j : ℕ} → To t c x s → Sight c i j s → Within b r j → x ≤ near t s b + i
  unfolding near
  sight-near (east e) (right f) h = omega arith
  sight-near (west e) (left f) h = omega arith

  sight-far : {s : Heading} {b : Block} {x r c i j : ℕ} → To t c x s → Sight c i j s → i ≤ 2 → Within b r j → near t s b + 1 ≤ x → far t s b ≤ 2 →
      (b.column ≤ t.C + 2) × (t.C < b.width + b.column + 2)
  unfolding far near
  sight-far (east e) (right f) two h n o = omega arith
  sight-far (west e) (left f) two h n o = omega arith

-- the block that stops a packet in the row
pub record Met (t : Trip) (bs : List Block) (s : Heading) (x c : ℕ) (b : Block) : Type 0 where
  pub crosses : Crosses t bs s b
  pub from : near t s b + 1 ≤ x
  pub till : x + not_own t s c ≤ near t s b + 2

module _ {t : Trip} {bs : List Block} (course : Course t bs) where
  -- a block across the destination's row is three columns from it
  three-away : {b : Block} → Listed b bs → b.row ≤ t.R → t.R < b.height + b.row → b.column ≤ t.C + 2 → t.C < b.width + b.column + 2 → ⊥
  three-away {b} m lo hi h k =
      let wall = course.obstacles.walled b m in
      let j = max b.column (t.C - 2) in
      true-false (wall.inside t.R j (let wide = wall.wide in omega arith)) (course.clear j (omega arith) (omega arith))

  pub met_by : {s : Heading} {x r c i j : ℕ} {b : Block} → Listed b bs → r ≡ t.R → Within b r j → To t c x s → 1 ≤ x → t.bad r c ≡ false →
      i + not_own t s c ≤ 2 → Sight c i j s → Met t bs s x c b
  met_by {s} {x} {b = b} m here h to one free y v =
      let wall = course.obstacles.walled b m in
      let n : near t s b + 1 ≤ x = le-by-contradiction (λ no. free-without course m free (sight-within to one v h (omega arith))) in
      let close = sight-near to v h in
      record {
        crosses =
            record {
              listed = m;
              tall = wall.tall;
              wide = wall.wide;
              low = omega arith;
              high = omega arith;
              beyond =
                  le-by-contradiction (λ no. let f = sight-far to v (omega arith) h n (omega arith) in three-away m (omega arith) (omega arith) f.0 f.1);
              fits = course.obstacles.fits b m;
            };
        from = n;
        till = omega arith;
      }

  -- stopped in an own column, or by the next node
  ready-now : {s : Heading} {l : Option Heading} {x r c n i j : ℕ} → Dec (not_own t s c ≤ 0) → InRow t bs s x r c n l →
      1 ≤ i → i + not_own t s c ≤ 2 → Sight c i j s → t.bad r j ≡ true → Ready t c l s
  ready-now {l = l} {c = c} (yes h) m o to v e = ready t c l (level m.to) (omega arith) m.turn
  ready-now {i = i} {j = j} (no h) m o to v e = let one : i ≡ 1 = omega arith in m.stop j (rw one at v) e

  -- after a hop in the row: in an own column, or the next node was in sight
  ready-next : {s : Heading} {x r c : ℕ} → Dec (not_own t s (column_after s c) ≤ 0) → To t c x s → 1 ≤ x → Open t r c s →
      (j : ℕ) → Sight (column_after s c) 1 j s → t.bad r j ≡ true → Ready t (column_after s c) (Some s) s
  ready-next {s} {c = c} (yes h) to one p j v e = ready t _ (Some s) (level to) (omega arith) (straight t (column_after s c) s)
  ready-next (no h) to one p j v e =
      let z = alternate-next course to one in true-false e (p.free 2 j (omega arith) (omega arith) (sight-two to one v))

  pub in-row-step : {s : Heading} {l : Option Heading} {x r c n : ℕ} → 1 ≤ x → InRow t bs s x r c (suc n) l → Next t bs n r c l (hop t r c l)
  in-row-step {s} {l} {x} {r} {c} {n} one m =
      let v = level m.to in
      by-in_row (Next t bs n r c l) l m.here m.to one
      (λ p.
      let h = course.obstacles.in-block r p.j p.bad in
      let b = h.block in
      let g = met_by h.listed m.here h.within m.to one m.free p.two p.sight in
      let q = g.crosses in
      let u = upright-again l in
      let o = here-off m.here u in
      let z = ready-now (dec_le _ _) m p.one p.two p.sight p.bad in
      let y = off-out q o (omega arith) in
      let cut = rest-cut q m.to (omega arith) in
      let less = reach-le t b u in
      let order = far-near v q in
      goes-out q o (omega arith) (free-close course q y m.to (omega arith) (omega arith)) z.away
      (leaving (record { crosses = q; off = y; rows = omega arith; to = m.to; from = g.from; till = g.till; turn = z.back; falls = omega arith })))
      (λ p.
      let y = not_own-le t s c in
      let f = p.free 1 (column_after s c) (omega arith) (omega arith) (sight-one m.to one) in
      let to = to-next m.to one in
      let less = rest-on bs m.to to (omega arith) in
      goes-side course m.to one f m.turn
      (in_row (record {
        here = m.here;
        to = to;
        free = f;
        turn = straight t (column_after s c) s;
        stop = ready-next (dec_le _ _) m.to one p;
        falls = omega arith;
      })))
