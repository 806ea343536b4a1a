-- Travel round a block that crosses the destination's row: away from the row, over or under the block, back to the row. Assumes nothing.
use Rattle.std.proofs.Common.{Some, ◌≡◌, refl, Bool, true, false, List, ℕ, zero, suc, ◌+◌, ◌-◌, ◌≤◌, arith}
use Rattle.mesh.specs.declared.Heading.{Heading}
use Rattle.mesh.specs.Headings.{row_after, opposite}
use Rattle.mesh.specs.Blocks.{Block}
use Rattle.mesh.specs.Rules.{Trip, hop}
use Rattle.mesh.proofs.Bools.{true-false}
use Rattle.theory_walk.specs.Course.{Course}
use Rattle.theory_walk.proofs.Bools.{bit, le-by-contradiction}
use Rattle.theory_walk.proofs.Coordinates.{upright-opposite, not_own, not_own-le, upright, level, off-in, off-here, to-next, sight-to, to-sight, alternate-next}
use Rattle.theory_walk.proofs.Crossing.{reach, far, near, near_column, far-to, near-to, far-near, off-out, bad-inside, free-close, inside-if-bad}
use Rattle.theory_walk.proofs.Rules.{went, by-leaving, by-across, by-nearing}
use Rattle.theory_walk.proofs.Turns.{straight, turn_in, turn-out, ready-upright}
use Rattle.theory_walk.proofs.Lawful.{goes-side, goes_in, goes-out}
use Rattle.theory_walk.proofs.Weights.{rest-on}
use Rattle.theory_walk.proofs.Modes.{Leaving, Passing, Returning, Mode, in_row, leaving, passing, returning, Next}

module _ {t : Trip} {bs : List Block} (course : Course t bs) where
  land : {b : Block} {a s : Heading} {x r c n : ℕ} (k : ℕ) → Returning t bs b a k s x r c n → Mode t bs n r c (Some (opposite a))
  land {c = c} zero m =
      let q = m.crosses in
      let v = upright-opposite (upright m.off) in
      let order = far-near (level m.to) q in
      let turned = turn-out t c v (level m.to) m.turn in
      let less = rest-on bs (far-to (level m.to) q) m.to (omega arith) in
      in_row (record {
        here = off-here m.off;
        to = m.to;
        free = free-close course q m.off m.to (omega arith) (omega arith);
        turn = turned;
        stop = λ j i e. ready-upright t c v turned;
        falls = omega arith;
      })
  land (suc k) m = returning m

  pub returning-step : {b : Block} {a s : Heading} {k x r c n : ℕ} → Returning t bs b a (suc k) s x r c (suc n) →
      Next t bs n r c (Some (opposite a)) (hop t r c (Some (opposite a)))
  returning-step {a = a} {k = k} {r = r} {c = c} {n = n} m =
      let q = m.crosses in
      let o = off-in m.off in
      let order = far-near (level m.to) q in
      by-nearing (Next t bs n r c (Some (opposite a))) c m.off
      (λ e. true-false e (free-close course q o m.to (omega arith) (omega arith)))
      (λ e. goes_in course m.off e (straight t c (opposite a))
      (land k (record { crosses = q; off = o; rows = omega arith; to = m.to; turn = m.turn; from = m.from; till = m.till; falls = omega arith })))

  -- where rule 4 or 6 goes on to the side, the block is not yet passed
  not-past : {b : Block} {a s : Heading} {x r c n : ℕ} (β : Bool) → t.bad (row_after (opposite a) r) c ≡ β → Passing t bs b a s x r c n →
      1 ≤ not_own t s c + bit β → far t s b ≤ x + not_own t s c
  not-past {s = s} {c = c} true e m h =
      let y = not_own-le t s c in
      let order = far-near (level m.to) m.crosses in
      let i = inside-if-bad course m.crosses (off-in m.off) m.to (omega arith) e in omega arith
  not-past false e m h = omega arith

  past : {b : Block} {a s : Heading} {x r c n : ℕ} → Passing t bs b a s x r c n → not_own t s c ≡ 0 →
      t.bad (row_after (opposite a) r) c ≡ false → x + 1 ≤ far t s b
  past m h e = le-by-contradiction (λ f. true-false (bad-inside course m.crosses (off-in m.off) m.to (omega arith)) e)

  pub passing_step : {b : Block} {a s : Heading} {x r c n : ℕ} → Passing t bs b a s x r c (suc n) → Next t bs n r c (Some s) (hop t r c (Some s))
  passing_step {b} {a} {s} {x} {r} {c} {n} m =
      let q = m.crosses in
      let v = level m.to in
      let order = far-near v q in
      by-across (Next t bs n r c (Some s)) c (went v) m.off
      (λ h e. goes_in course m.off e (turn_in t c v (upright-opposite (upright m.off)) h)
      (land (reach t a b) (record {
        crosses = q;
        off = off-in m.off;
        rows = omega arith;
        to = m.to;
        turn = h;
        from = omega arith;
        till = past m h e;
        falls = omega arith;
      })))
      (λ h.
      let f = not-past (t.bad (row_after (opposite a) r) c) refl m h in
      let y = not_own-le t s c in
      let one : 1 ≤ x = omega arith in
      let to = to-next m.to one in
      let z = alternate-next course m.to one in
      goes-side course m.to one (free-close course q m.off to (omega arith) (omega arith)) (straight t c s)
      (passing (record { crosses = q; off = m.off; to = to; from = omega arith; till = omega arith; falls = omega arith })))

  pub leaving-step : {b : Block} {a s : Heading} {k x r c n : ℕ} → Leaving t bs b a k s x r c (suc n) → Next t bs n r c (Some a) (hop t r c (Some a))
  leaving-step {b} {a} {s} {k} {x} {r} {c} {n} m =
      let q = m.crosses in
      let v = level m.to in
      let order = far-near v q in
      let one : 1 ≤ x = omega arith in
      by-leaving (Next t bs n r c (Some a)) m.off m.to one
      (λ p.
      let i = inside-if-bad course q m.off (sight-to m.to p.sight (omega arith)) (omega arith) p.bad in
      let o = off-out q m.off i.rows in
      goes-out q m.off i.rows (free-close course q o m.to (omega arith) (omega arith)) (straight t c a)
      (leaving (record { crosses = q; off = o; rows = i.rows; to = m.to; from = m.from; till = m.till; turn = m.turn; falls = omega arith })))
      (λ p.
      let edge : reach t a b ≤ k =
      le-by-contradiction (λ f. true-false (bad-inside course q m.off (near-to v q) (omega arith))
      (p.free (x - near t s b) (near_column s b) (omega arith) (omega arith) (to-sight m.to (near-to v q) (omega arith)))) in
      let same : k ≡ reach t a b = omega arith in
      let to = to-next m.to one in
      let y = not_own-le t s c in
      let z = alternate-next course m.to one in
      goes-side course m.to one (free-close course q m.off to (omega arith) (omega arith)) m.turn
      (passing (record { crosses = q; off = rw same at m.off; to = to; from = omega arith; till = omega arith; falls = omega arith })))
