-- A block across the destination's row, on the way to it, and its ring, by the rows and columns that are to go. Assumes nothing.
use Rattle.std.proofs.Common.{◌≡◌, true, false, List, ℕ, suc, ◌+◌, ◌-◌, ◌≤◌, ◌<◌, arith}
use Rattle.mesh.specs.declared.Heading.{Heading}
use Rattle.mesh.specs.declared.Heading.TheVariants.{North as N, South as S}
use Rattle.mesh.specs.Headings.{row_after}
use Rattle.mesh.specs.Blocks.{Block}
use Rattle.mesh.specs.Rules.{Trip}
use Rattle.mesh.proofs.Bools.{true-false}
use Rattle.theory_blocks.specs.Blocks.{Reaches, Within, Fits}
use Rattle.theory_blocks.specs.Obstacles.{Listed}
use Rattle.theory_walk.specs.Course.{Course}
use Rattle.theory_walk.proofs.Bools.{le-by-contradiction}
use Rattle.theory_walk.proofs.Coordinates.{pick, Upright, up, down, Level, to-east, to-west, Off, north, south, To, east, west}

-- any listed block: its nodes are bad, those of its ring are not
module _ {t : Trip} {bs : List Block} (k : Course t bs) {b : Block} (m : Listed b bs) {r c : ℕ} where
  bad-within : Within b r c → t.bad r c ≡ true
  bad-within i = (k.obstacles.walled b m).inside r c i

  pub free-beside : Reaches 1 2 b r c → (Within b r c → ⊥) → t.bad r c ≡ false
  free-beside n out = (k.obstacles.walled b m).ring r c (record { near = n; outside = out })

  pub free-without : t.bad r c ≡ false → Within b r c → ⊥
  free-without e i = true-false (bad-within i) e

  within-if-bad : Reaches 1 2 b r c → t.bad r c ≡ true → Within b r c
  within-if-bad n e =
      let not-out : (Within b r c → ⊥) → ⊥ = λ out. true-false e (free-beside n out) in
      record {
        south = le-by-contradiction (λ h. not-out (λ i. h i.south));
        north = le-by-contradiction (λ h. not-out (λ i. h i.north));
        west = le-by-contradiction (λ h. not-out (λ i. h i.west));
        east = le-by-contradiction (λ h. not-out (λ i. h i.east));
      }

-- rows of b beyond the destination's on the side a
unfoldable pub reach : Trip → Heading → Block → ℕ
reach t a b = pick a (b.height + b.row - suc t.R) (t.R - b.row)

-- columns from the destination's to the far and to the near end of b, for a packet that goes to the s
unfoldable pub far : Trip → Heading → Block → ℕ
far t s b = pick s (suc t.C - (b.width + b.column)) (b.column - t.C)

unfoldable pub near : Trip → Heading → Block → ℕ
near t s b = pick s (t.C - b.column) (b.width + b.column - suc t.C)

unfoldable pub far_column : Heading → Block → ℕ
far_column s b = pick s (b.width + b.column - 1) b.column

unfoldable pub near_column : Heading → Block → ℕ
near_column s b = pick s b.column (b.width + b.column - 1)

-- b crosses the destination's row, and the destination lies to the s of it, three columns or more
pub record Crosses (t : Trip) (bs : List Block) (s : Heading) (b : Block) : Type 0 where
  pub listed : Listed b bs
  pub tall : 0 < b.height
  pub wide : 0 < b.width
  pub low : b.row ≤ t.R
  pub high : t.R < b.height + b.row
  pub beyond : 3 ≤ far t s b
  pub fits : Fits t.columns t.rows b

-- k rows to the a of the destination's, y columns before it: in b, and in b or its ring
pub record Inside (t : Trip) (b : Block) (a : Heading) (k : ℕ) (s : Heading) (y : ℕ) : Type 0 where
  pub rows : k ≤ reach t a b
  pub from : far t s b ≤ y
  pub till : y ≤ near t s b

pub record Close (t : Trip) (b : Block) (a : Heading) (k : ℕ) (s : Heading) (y : ℕ) : Type 0 where
  pub rows : k ≤ suc (reach t a b)
  pub from : far t s b ≤ y + 2
  pub till : y ≤ near t s b + 2

pub reach-le : {a : Heading} (t : Trip) (b : Block) → Upright a → reach t a b ≤ reach t N b + reach t S b
reach-le t b up = omega arith
reach-le t b down = omega arith

module _ {t : Trip} {bs : List Block} where
  pub far-to : {s : Heading} {b : Block} → Level s → Crosses t bs s b → To t (far_column s b) (far t s b) s
  unfolding far far_column
  far-to to-east q = let h = q.beyond in east (omega arith)
  far-to to-west q = let h = q.beyond in west (omega arith)

  pub near-to : {s : Heading} {b : Block} → Level s → Crosses t bs s b → To t (near_column s b) (near t s b) s
  unfolding far near near_column
  near-to to-east q = let h = q.beyond in east (omega arith)
  near-to to-west q = let h = q.beyond in west (omega arith)

  pub far-near : {s : Heading} {b : Block} → Level s → Crosses t bs s b → far t s b ≤ near t s b
  unfolding far near
  far-near to-east q = omega arith
  far-near to-west q = omega arith

  pub off-out : {s a : Heading} {b : Block} {r k : ℕ} → Crosses t bs s b → Off t r k a → k ≤ reach t a b → Off t (row_after a r) (suc k) a
  unfolding reach row_after
  off-out q (north e) h = north (omega arith)
  off-out q (south e) h = south (omega arith)

  within_of : {s a : Heading} {b : Block} {r k j y : ℕ} → Crosses t bs s b → Off t r k a → To t j y s → Inside t b a k s y → Within b r j
  unfolding reach far near
  within_of q (north e) (east f) i = omega arith
  within_of q (north e) (west f) i = omega arith
  within_of q (south e) (east f) i = omega arith
  within_of q (south e) (west f) i = omega arith

  inside_of : {s a : Heading} {b : Block} {r k j y : ℕ} → Crosses t bs s b → Off t r k a → To t j y s → Within b r j → Inside t b a k s y
  unfolding reach far near
  inside_of q (north e) (east f) i = omega arith
  inside_of q (north e) (west f) i = omega arith
  inside_of q (south e) (east f) i = omega arith
  inside_of q (south e) (west f) i = omega arith

  reaches_of : {s a : Heading} {b : Block} {r k j y : ℕ} → Crosses t bs s b → Off t r k a → To t j y s → Close t b a k s y → Reaches 1 2 b r j
  unfolding reach far near
  reaches_of q (north e) (east f) i = omega arith
  reaches_of q (north e) (west f) i = omega arith
  reaches_of q (south e) (east f) i = omega arith
  reaches_of q (south e) (west f) i = omega arith

-- all that travel round a block uses of the marking
module _ {t : Trip} {bs : List Block} (course : Course t bs) {s a : Heading} {b : Block} {r k j y : ℕ}
    (q : Crosses t bs s b) (o : Off t r k a) (to : To t j y s) where
  pub bad-inside : Inside t b a k s y → t.bad r j ≡ true
  bad-inside i = bad-within course q.listed (within_of q o to i)

  pub free-close : Close t b a k s y → (Inside t b a k s y → ⊥) → t.bad r j ≡ false
  free-close n out = free-beside course q.listed (reaches_of q o to n) (λ i. out (inside_of q o to i))

  pub inside-if-bad : Close t b a k s y → t.bad r j ≡ true → Inside t b a k s y
  inside-if-bad n e = inside_of q o to (within-if-bad course q.listed (reaches_of q o to n) e)
