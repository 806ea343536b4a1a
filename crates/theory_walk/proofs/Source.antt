-- A served source is in a mode, with a number within the bound. Assumes nothing.
use Rattle.std.proofs.Common.{None, ◌≡◌, refl, Bool, true, false, not, ◌||◌, List, ℕ, suc, ◌+◌, ◌-◌, ◌≤◌, ◌<◌, arith, eq-eqb, ne_eqb, lt-ltb, le-ltb, le-leb, eqb, ltb, leb}
use Rattle.std.proofs.Math.Bool.{and-true, or-true}
use Rattle.std.proofs.Math.Decide.{dec_lt, ℕ_discrete}
use Rattle.mesh.specs.declared.Heading.{Heading}
use Rattle.mesh.specs.declared.Heading.TheVariants.{East as E, North as N, West as W}
use Rattle.mesh.specs.Nodes.{ahead}
use Rattle.mesh.specs.Blocks.{Block}
use Rattle.mesh.specs.Rules.{Trip, blocked, own, again}
use Rattle.mesh.specs.Walk.{shut_in, meets_edge, distance, bound}
use Rattle.mesh.proofs.Bools.{true-false, and_right}
use Rattle.theory_walk.specs.Course.{Served}
use Rattle.theory_walk.proofs.Bools.{le-by-contradiction}
use Rattle.theory_walk.proofs.Coordinates.{up, to-west, Sight, left, Off, To, east, west, not_own, gaps, off-by}
use Rattle.theory_walk.proofs.Rules.{first}
use Rattle.theory_walk.proofs.Turns.{Ready, first-hop, turn-east, ready}
use Rattle.theory_walk.proofs.Weights.{rest-detour, detour-all}
use Rattle.theory_walk.proofs.Modes.{Mode, approaching, shifting, in_row}

module _ {t : Trip} {r c : ℕ} (src : Served t r c) where
  -- where NW and SW are forbidden and the packet must go west
  west-free : t.west c ≡ false → not (eqb r t.R) || ltb t.C c ≡ true → (1 ≤ c) × (t.bad r (c - 1) ≡ false)
  unfolding shut_in meets_edge blocked ahead
  west-free e f =
      let one : 1 ≤ c =
      le-by-contradiction (λ no.
      let same_row : not (eqb r t.R) ≡ false = rw (eq-eqb c 0 (omega arith), e) at src.off-edge in
      let none-west = rw (same_row, le-ltb t.C c (omega arith)) at f in
      true-false {b = false} none-west refl) in
      (one, and_right (leb 1 c) (t.bad r (c - 1)) (le-leb 1 c one) (rw (e, f, and-true) at src.not-shut))

  start-off : {bs : List Block} {a : Heading} {k n : ℕ} (β : Bool) → t.west c ≡ β → (r ≡ t.R → ⊥) → Off t r (suc k) a →
      suc k ≤ distance r t.R → bound t bs r c < n → Mode t bs n r c None
  unfolding bound not_own own
  start-off {bs} {a} true e ne o h b =
      let gap = gaps c t.C in
      let all = detour-all t a r c bs in
      approaching {g = distance c t.C} first
      (record { off = o; free = src.place.free; turn = rw e; gap-east = omega arith; gap-west = omega arith; falls = omega arith })
  start-off {bs} {a} false e ne o h b =
      let gap = gaps c t.C in
      let all = detour-all t a r (c - 1) bs in
      let p = west-free e (rw (ne_eqb r t.R ne)) in
      shifting {g = distance c t.C + 1} first
      (record { off = o; free = p.1; turn = rw e; one = p.0; gap-east = omega arith; gap-west = omega arith; falls = omega arith })

  start-row : {bs : List Block} {s : Heading} {x n : ℕ} → To t c x s → x ≤ distance c t.C →
      ((j : ℕ) → Sight c 1 j s → t.bad r j ≡ true → Ready t c None s) →
      r ≡ t.R → bound t bs r c < n → Mode t bs n r c None
  unfolding bound
  start-row {bs} {s} to h stop e b =
      let all = detour-all t N r c bs in
      let less = rest-detour t s N r c c bs in
      in_row (record { here = e; to = to; free = src.place.free; turn = first-hop t c s; stop = stop; falls = omega arith })

  ready-west : (β : Bool) → t.west c ≡ β → t.C < c → (j : ℕ) → Sight c 1 j W → t.bad r j ≡ true → Ready t c None W
  unfolding not_own own
  ready-west true e h j v b = ready t c None to-west (rw e) (first-hop t c W)
  ready-west false e h j (left f) b =
      let same : j ≡ c - 1 = omega arith in true-false (rw same at b) (west-free e (rw (lt-ltb t.C c h, or-true))).1

  ready-east : Ready t c None E
  unfolding again
  ready-east = record { away = first-hop t c N; back = turn-east t c up }

  pub start : {bs : List Block} {n : ℕ} → bound t bs r c < n → Mode t bs n r c None
  start {bs} {n} b = from_row (ℕ_discrete r t.R)
    where
      from-column : Dec (t.C < c) → r ≡ t.R → Mode t bs n r c None
      from-column (yes h) e = let gap = gaps c t.C in start-row {x = c - t.C} (west (omega arith)) (omega arith) (ready-west (t.west c) refl h) e b
      from-column (no h) e = let gap = gaps c t.C in start-row {x = t.C - c} (east (omega arith)) (omega arith) (λ j v to. ready-east) e b

      from_row : Dec (r ≡ t.R) → Mode t bs n r c None
      from_row (yes e) = from-column (dec_lt _ _) e
      from_row (no ne) = let o = off-by r ne in start-off (t.west c) refl ne o.off o.rows b
