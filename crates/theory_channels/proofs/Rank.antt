-- The order of `Rank`: a permitted hop that stays on the mesh leads on in it. Assumes nothing.
use Rattle.std.proofs.Common.{Option, Some, None, ◌≡◌, Bool, true, false, cond, ℕ, zero, suc, ◌+◌, ◌-◌, ◌*◌, ◌≤◌, ◌<◌, arith, leb-true}
use Rattle.std.proofs.Math.Decide.{ℕ_discrete}
use Rattle.mesh.specs.declared.Heading.{Heading}
use Rattle.mesh.specs.declared.Heading.TheVariants.{East as E, North as N, South as S, West as W}
use Rattle.mesh.specs.Headings.{row_after, column_after}
use Rattle.mesh.specs.Turns.{may_turn}
use Rattle.mesh.specs.Hops.{At, moved, stays}
use Rattle.mesh.proofs.Hops.{state}
use Rattle.theory_channels.specs.Rank.{westbound, eastbound, stage, climb, Later, rank}
use Rattle.theory_channels.specs.Claims.{Permitted, first, straight, WN, WS, NE, SE, NW, SW, EN, ES}
use Rattle.theory_channels.proofs.Turns.{permitted-told}

-- the stage of hops N and S in column c, by whether they may turn west there
abbrev line : Bool → ℕ → ℕ → ℕ
line b columns c = cond b (westbound columns c) (eastbound columns c)

-- it is no earlier than that of the hop before them, and earlier than that of the hop after them
after-west : (b : Bool) (columns c : ℕ) → westbound columns c ≤ line b columns c
after-west true columns c = omega arith
after-west false columns c = omega arith

before-west : {b : Bool} (columns c : ℕ) → b ≡ true → 1 ≤ c → c < columns → line b columns c < westbound columns (c - 1)
before-west columns c e i j = rw e (omega arith)

after-east : {b : Bool} (columns c : ℕ) → b ≡ false → eastbound columns c ≤ line b columns c
after-east columns c e = rw e (omega arith)

before-east : (b : Bool) (columns c : ℕ) → line b columns c < eastbound columns (c + 1)
before-east true columns c = omega arith
before-east false columns c = omega arith

-- a hop to the h from (r, c) on the mesh, after l
module _ (west : ℕ → Bool) {columns rows r c : ℕ} (i : r < rows) (j : c < columns) where
  abbrev Leads : Option Heading → Heading → Type 0
  Leads l h = Later west columns rows (state r c l) (state (row_after h r) (column_after h c) (Some h))

  -- to a later stage
  on : {l : Option Heading} {h : Heading} → stage west columns l c < stage west columns (Some h) (column_after h c) → Leads l h
  on k = record { no-earlier = omega arith; climbs = λ e. absurd (omega arith) }

  -- to a stage that is no earlier, and further along the column
  up : {l : Option Heading} → stage west columns l c ≤ stage west columns (Some N) c → climb rows l r ≤ r → Leads l N
  unfolding row_after column_after climb
  up k m = record { no-earlier = k; climbs = λ e. omega arith }

  down : {l : Option Heading} → stage west columns l c ≤ stage west columns (Some S) c → climb rows l r ≤ rows - suc r → 1 ≤ r → Leads l S
  unfolding row_after column_after climb
  down k m s = record { no-earlier = k; climbs = λ e. omega arith }

  leads-on : {l : Option Heading} {h : Heading} → Permitted west c l h → stays columns rows h r c ≡ true → Leads l h
  unfolding stays column_after stage climb
  leads-on {h = E} first s = on (omega arith)
  leads-on {h = N} first s = up (after-west (west c) columns c) (omega arith)
  leads-on {h = S} first s = down (after-west (west c) columns c) (omega arith) (leb-true 1 r s)
  leads-on {h = W} first s = on (omega (arith, leb-true 1 c s))
  leads-on {h = E} straight s = on (omega arith)
  leads-on {h = N} straight s = up (omega arith) (omega arith)
  leads-on {h = S} straight s = down (omega arith) (omega arith) (leb-true 1 r s)
  leads-on {h = W} straight s = on (omega (arith, leb-true 1 c s))
  leads-on WN s = up (after-west (west c) columns c) (omega arith)
  leads-on WS s = down (after-west (west c) columns c) (omega arith) (leb-true 1 r s)
  leads-on NE s = on (before-east (west c) columns c)
  leads-on SE s = on (before-east (west c) columns c)
  leads-on (NW e) s = on (before-west columns c e (leb-true 1 c s) j)
  leads-on (SW e) s = on (before-west columns c e (leb-true 1 c s) j)
  leads-on (EN e) s = up (after-east columns c e) (omega arith)
  leads-on (ES e) s = down (after-east columns c e) (omega arith) (leb-true 1 r s)

pub hop-later : (west : ℕ → Bool) (columns rows : ℕ) (p : At) (h : Heading) → p.row < rows → p.column < columns →
    stays columns rows h p.row p.column ≡ true → may_turn west p.column p.last h ≡ true → Later west columns rows p (moved h p)
unfolding moved
hop-later west columns rows p h i j s t = leads-on west i j (permitted-told west p.column p.last h t) s

-- A number that counts stages by f, and within a stage how far the packet has climbed, rises if the next stage begins beyond that.
module _ (f : ℕ → ℕ) (rises : (k : ℕ) → f k ≤ f (suc k)) where
  pub rises-to : (a b : ℕ) → a ≤ b → f a ≤ f b
  rises-to a zero h = let e : a ≡ 0 = omega arith in rw e (omega arith)
  rises-to a (suc b) h =
      elim (ℕ_discrete a (suc b)) [ yes e ↦ rw e (omega arith) | no n ↦ omega (arith, rises b, rises-to a b (omega arith)) ]

  pub counts_up : (a b i j : ℕ) → a ≤ b → (a ≡ b → i < j) → f a + i < f (suc a) → f a + i < f b + j
  counts_up a b i j h climbs room =
      elim (ℕ_discrete a b) [
        | yes e ↦ let k : i < j = climbs e in rw (← e) (omega arith)
        | no n ↦ omega (arith, rises-to (suc a) b (omega arith))
      ]

-- So does the rank.
climb-low : (rows : ℕ) (l : Option Heading) {r : ℕ} → r < rows → climb rows l r < rows
unfolding climb
climb-low rows None i = omega arith
climb-low rows (Some E) i = omega arith
climb-low rows (Some N) i = i
climb-low rows (Some S) i = omega arith
climb-low rows (Some W) i = omega arith

pub later-rises : (west : ℕ → Bool) (columns rows : ℕ) (p q : At) → p.row < rows → Later west columns rows p q →
    rank west columns rows p < rank west columns rows q
unfolding rank
later-rises west columns rows p q i l =
    counts_up (λ k. k * rows) (λ k. omega arith) _ _ _ _ l.no-earlier l.climbs (omega (arith, climb-low rows p.last i))
