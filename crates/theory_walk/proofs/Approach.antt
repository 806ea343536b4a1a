-- Straight travel to the destination's row, in columns that permit NW and SW, and two columns west past each block on the way. Assumes nothing.
use Rattle.std.proofs.Common.{Option, Some, ◌≡◌, refl, Bool, true, false, List, ℕ, zero, suc, ◌+◌, ◌-◌, ◌≤◌, arith, lt-ltb, le-leb}
use Rattle.std.proofs.Math.Decide.{dec_le}
use Rattle.mesh.specs.declared.Heading.{Heading}
use Rattle.mesh.specs.declared.Heading.TheVariants.{West as W}
use Rattle.mesh.specs.Headings.{row_after, opposite}
use Rattle.mesh.specs.Blocks.{Block}
use Rattle.mesh.specs.Rules.{Trip, hop}
use Rattle.theory_blocks.specs.Blocks.{Within}
use Rattle.theory_walk.specs.Course.{Course}
use Rattle.theory_walk.proofs.Bools.{bit, le-by-contradiction}
use Rattle.theory_walk.proofs.Coordinates.{upright-opposite, to-west, Off, north, south, To, east, west, row-beside, upright, off-in, off-here, alternate-back}
use Rattle.theory_walk.proofs.Crossing.{free-beside, free-without}
use Rattle.theory_walk.proofs.Rules.{Across, went-west, by-across, by-nearing}
use Rattle.theory_walk.proofs.Turns.{Permits, straight, across-on, across-in, turn-east, turn-out, ready-upright}
use Rattle.theory_walk.proofs.Lawful.{goes-west, goes_in}
use Rattle.theory_walk.proofs.Weights.{before, rest-detour, detour-in, detour-two}
use Rattle.theory_walk.proofs.Modes.{Approaching, Shifting, Mode, approaching, approaching-on, shifting, in_row, Next}

bad-bit : (β : Bool) (u : ℕ) → u ≡ 0 → 1 ≤ u + bit β → β ≡ true
bad-bit true u e h = refl
bad-bit false u e h = absurd (omega arith)

-- a block that holds the next node toward the row, and not (r, c), lies wholly before r
before-by : {t : Trip} {a : Heading} {k r c : ℕ} {b : Block} → Off t r (suc k) a → Within b (row_after (opposite a) r) c →
    (Within b r c → ⊥) → before a r b ≡ true
unfolding row_after opposite before
before-by {r = r} {b = b} (north e) i out = le-leb (b.height + b.row) r (le-by-contradiction (λ no. out (omega arith)))
before-by {r = r} {b = b} (south e) i out = lt-ltb r b.row (le-by-contradiction (λ no. out (omega arith)))

module _ {t : Trip} {bs : List Block} (course : Course t bs) where
  -- into the destination's row
  land-toward : {a s : Heading} {g x r c n : ℕ} → To t c x s → x ≤ g → Permits t c (Some (opposite a)) s →
      Approaching t bs a 0 g r c n → Mode t bs n r c (Some (opposite a))
  land-toward {a} {s} {r = r} {c = c} to h turned m =
      let less = rest-detour t s a r c c bs in
      in_row (record {
        here = off-here m.off;
        to = to;
        free = m.free;
        turn = turned;
        stop = λ j i e. ready-upright t c (upright-opposite (upright m.off)) turned;
        falls = omega arith;
      })

  land-row : {a : Heading} {g r c n : ℕ} → Dec (t.C ≤ c) → Approaching t bs a 0 g r c n → Mode t bs n r c (Some (opposite a))
  land-row {c = c} (yes h) m = land-toward {x = c - t.C} (west (omega arith)) (omega arith) (turn-out t c (upright-opposite (upright m.off)) to-west m.turn) m
  land-row {c = c} (no h) m = land-toward {x = t.C - c} (east (omega arith)) (omega arith) (turn-east t c (upright-opposite (upright m.off))) m

  land : {a : Heading} {g r c n : ℕ} (k : ℕ) → Approaching t bs a k g r c n → Mode t bs n r c (Some (opposite a))
  land zero m = land-row (dec_le _ _) m
  land (suc k) m = approaching-on m

  go_on : {a : Heading} {l : Option Heading} {k g r c n : ℕ} → Approaching t bs a (suc k) g r c (suc n) → Permits t c l (opposite a) →
      t.bad (row_after (opposite a) r) c ≡ false → Next t bs n r c l (opposite a)
  go_on {k = k} {c = c} m to e =
      let less = detour-in c bs m.off in
      goes_in course m.off e to
      (land k (record { off = off-in m.off; free = e; turn = m.turn; gap-east = m.gap-east; gap-west = m.gap-west; falls = omega arith }))

  -- two columns west to pass the block over or under the packet
  go-west : {a : Heading} {l : Option Heading} {k g r c n : ℕ} → Approaching t bs a (suc k) g r c (suc n) → Permits t c l W →
      t.bad (row_after (opposite a) r) c ≡ true →
      Next t bs n r c l W
  go-west {a} {l} {k} {g} {r} {c} {n} m to e =
      let h = course.obstacles.in-block (row_after (opposite a) r) c e in
      let i = h.within in
      let fit = course.obstacles.fits h.block h.listed in
      let out = free-without course h.listed m.free in
      let beside = row-beside (opposite a) r in
      let two : c - 1 - 1 ≡ c - 2 = omega arith in
      let less = detour-two t a r c bs h.listed (before-by m.off i out) (omega arith) (omega arith) (omega arith) in
      let z = alternate-back course to-west c (omega arith) in
      goes-west (omega arith) (free-beside course h.listed (omega arith) (λ j. out (omega arith))) to
      (shifting {g = g + 2} went-west (record {
        off = m.off;
        free = rw two (free-beside course h.listed (omega arith) (λ j. out (omega arith)));
        turn = omega arith;
        one = omega arith;
        gap-east = omega arith;
        gap-west = omega arith;
        falls = rw two (omega arith);
      }))

  pub approaching-step : {a : Heading} {l : Option Heading} {k g r c n : ℕ} → Across l W → Approaching t bs a (suc k) g r c (suc n) →
      Next t bs n r c l (hop t r c l)
  approaching-step {a} {l} {r = r} {c = c} {n = n} x m =
      by-across (Next t bs n r c l) c x m.off
      (λ z e. go_on m (across-in t c x (upright-opposite (upright m.off)) z) e)
      (λ h. go-west m (across-on t c x) (bad-bit _ _ m.turn h))

  pub approaching-on-step : {a : Heading} {k g r c n : ℕ} → Approaching t bs a (suc k) g r c (suc n) →
      Next t bs n r c (Some (opposite a)) (hop t r c (Some (opposite a)))
  approaching-on-step {a} {r = r} {c = c} {n = n} m =
      by-nearing (Next t bs n r c (Some (opposite a))) c m.off
      (go-west m (turn-out t c (upright-opposite (upright m.off)) to-west m.turn))
      (go_on m (straight t c (opposite a)))

  pub shifting-step : {a : Heading} {l : Option Heading} {k g r c n : ℕ} → Across l W → Shifting t bs a k g r c (suc n) → Next t bs n r c l (hop t r c l)
  shifting-step {a} {l} {g = g} {r = r} {c = c} {n = n} x m =
      let z = alternate-back course to-west c m.one in
      by-across (Next t bs n r c l) c x m.off (λ e f. absurd (omega arith))
      (λ h. goes-west m.one m.free (across-on t c x)
      (approaching {g = g} went-west (record {
        off = m.off;
        free = m.free;
        turn = omega arith;
        gap-east = omega arith;
        gap-west = omega arith;
        falls = omega arith;
      })))
