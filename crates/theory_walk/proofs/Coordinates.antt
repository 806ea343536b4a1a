-- Places by the rows and columns that are to go, so that north and south, east and west are one argument. Assumes nothing.
use Rattle.std.proofs.Common.{◌≡◌, refl, not, List, ℕ, suc, ◌+◌, ◌-◌, ◌≤◌, ◌<◌, arith}
use Rattle.std.proofs.Math.Decide.{dec_lt}
use Rattle.mesh.specs.declared.Heading.{Heading}
use Rattle.mesh.specs.declared.Heading.TheVariants.{East as E, North as N, South as S, West as W}
use Rattle.mesh.specs.Headings.{row_after, column_after, opposite}
use Rattle.mesh.specs.Blocks.{Block}
use Rattle.mesh.specs.Rules.{Trip, own}
use Rattle.mesh.specs.Walk.{distance}
use Rattle.theory_walk.specs.Course.{Course}
use Rattle.theory_walk.proofs.Bools.{bit, bit_le, bits-of-both}

pub data Upright : Heading → Type 0 where
  up : Upright N
  down : Upright S

pub data Level : Heading → Type 0 where
  to-east : Level E
  to-west : Level W

pub upright-opposite : {a : Heading} → Upright a → Upright (opposite a)
unfolding opposite
upright-opposite up = down
upright-opposite down = up

-- the first to the north and east, the second to the south and west
abbrev pub pick : {A : Type 0} → Heading → A → A → A
pick E x y = x
pick N x y = x
pick S x y = y
pick W x y = y

-- column j lies i columns from c to the side s
pub data Sight (c i j : ℕ) : Heading → Type 0 where
  right : j ≡ c + i → Sight c i j E
  left : j + i ≡ c → Sight c i j W

-- row r lies k rows to the a of the destination's
pub data Off (t : Trip) (r k : ℕ) : Heading → Type 0 where
  north : r ≡ t.R + k → Off t r k N
  south : r + k ≡ t.R → Off t r k S

-- from column c it is x columns to the s to the destination's
pub data To (t : Trip) (c x : ℕ) : Heading → Type 0 where
  east : c + x ≡ t.C → To t c x E
  west : c ≡ t.C + x → To t c x W

-- 0 in the columns of the side's own turns, 1 in the others
unfoldable pub not_own : Trip → Heading → ℕ → ℕ
not_own t s c = bit (not (own t s c))

pub not_own-le : (t : Trip) (s : Heading) (c : ℕ) → not_own t s c ≤ 1
unfolding not_own
not_own-le t s c = bit_le (not (own t s c))

pub gaps : (a b : ℕ) → (a ≤ b + distance a b) × (b ≤ a + distance a b)
unfolding distance
gaps a b = omega arith

pub row-beside : (h : Heading) (r : ℕ) → (row_after h r ≤ r + 1) × (r ≤ row_after h r + 1)
unfolding row_after
row-beside E r = omega arith
row-beside N r = omega arith
row-beside S r = omega arith
row-beside W r = omega arith

-- a row other than the destination's
pub record OffBy (t : Trip) (r : ℕ) : Type 0 where
  pub a : Heading
  pub k : ℕ
  pub off : Off t r (suc k) a
  pub rows : suc k ≤ distance r t.R

module _ {t : Trip} where
  pub off-by : (r : ℕ) → (r ≡ t.R → ⊥) → OffBy t r
  off-by r ne = decided (dec_lt r t.R)
    where
      decided : Dec (r < t.R) → OffBy t r
      decided (yes h) = let gap = gaps r t.R in record { a = S; k = t.R - r - 1; off = south (omega arith); rows = omega arith }
      decided (no h) = let gap = gaps r t.R in record { a = N; k = r - t.R - 1; off = north (omega arith); rows = omega arith }

  pub upright : {r k : ℕ} {a : Heading} → Off t r k a → Upright a
  upright (north e) = up
  upright (south e) = down

  pub level : {c x : ℕ} {s : Heading} → To t c x s → Level s
  level (east e) = to-east
  level (west e) = to-west

  pub off-in : {a : Heading} {r k : ℕ} → Off t r (suc k) a → Off t (row_after (opposite a) r) k a
  unfolding row_after opposite
  off-in (north e) = north (omega arith)
  off-in (south e) = south (omega arith)

  pub off-here : {a : Heading} {r : ℕ} → Off t r 0 a → r ≡ t.R
  off-here (north e) = omega arith
  off-here (south e) = omega arith

  pub here-off : {r : ℕ} {a : Heading} → r ≡ t.R → Upright a → Off t r 0 a
  here-off e up = north (omega arith)
  here-off e down = south (omega arith)

  pub off-other : {a : Heading} {r k : ℕ} → Off t r (suc k) a → r ≡ t.R → ⊥
  off-other (north e) f = omega arith
  off-other (south e) f = omega arith

  pub to-here : {s : Heading} {c x : ℕ} → To t c x s → x < 1 → c ≡ t.C
  to-here (east e) h = omega arith
  to-here (west e) h = omega arith

  pub to-other : {s : Heading} {c x : ℕ} → To t c x s → 1 ≤ x → c ≡ t.C → ⊥
  to-other (east e) h f = omega arith
  to-other (west e) h f = omega arith

  pub to-next : {s : Heading} {c x : ℕ} → To t c x s → 1 ≤ x → To t (column_after s c) (x - 1) s
  unfolding column_after
  to-next (east e) h = east (omega arith)
  to-next (west e) h = west (omega arith)

  pub sight-one : {s : Heading} {c x : ℕ} → To t c x s → 1 ≤ x → Sight c 1 (column_after s c) s
  unfolding column_after
  sight-one (east e) h = right refl
  sight-one (west e) h = left (omega arith)

  pub sight-two : {s : Heading} {c x j : ℕ} → To t c x s → 1 ≤ x → Sight (column_after s c) 1 j s → Sight c 2 j s
  unfolding column_after
  sight-two (east e) h (right f) = right (omega arith)
  sight-two (west e) h (left f) = left (omega arith)

  -- the columns in sight, by what is to go from them
  pub sight-to : {s : Heading} {c x i j : ℕ} → To t c x s → Sight c i j s → i ≤ x → To t j (x - i) s
  sight-to (east e) (right f) h = east (omega arith)
  sight-to (west e) (left f) h = west (omega arith)

  pub to-sight : {s : Heading} {c x j y i : ℕ} → To t c x s → To t j y s → y + i ≡ x → Sight c i j s
  to-sight (east e) (east f) h = right (omega arith)
  to-sight (west e) (west f) h = left (omega arith)

-- a side's own columns alternate with the others
module _ {t : Trip} {bs : List Block} (k : Course t bs) where
  pub alternate : {s : Heading} → Level s → (c : ℕ) → not_own t s c + not_own t s (c + 1) ≡ 1
  unfolding not_own own
  alternate to-east c = rw (k.changes c) (bits-of-both (not (not (t.west c))))
  alternate to-west c = rw (k.changes c) (bits-of-both (not (t.west c)))

  pub alternate-back : {s : Heading} → Level s → (c : ℕ) → 1 ≤ c → not_own t s (c - 1) + not_own t s c ≡ 1
  alternate-back v c h = let e : c - 1 + 1 ≡ c = omega arith in rw e at (alternate v (c - 1))

  pub alternate-next : {s : Heading} {c x : ℕ} → To t c x s → 1 ≤ x → not_own t s c + not_own t s (column_after s c) ≡ 1
  unfolding column_after
  alternate-next {c = c} (east e) h = alternate to-east c
  alternate-next {c = c} (west e) h = let i = alternate-back to-west c (omega arith) in omega arith
