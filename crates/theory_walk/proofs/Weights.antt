-- What each block adds to the number that falls with every hop. Assumes nothing.
use Rattle.std.proofs.Common.{◌≡◌, refl, Bool, true, false, cond, ◌&&◌, List, ℕ, suc, ◌+◌, ◌-◌, ◌*◌, ◌≤◌, ◌<◌, min, arith, lt-ltb, le-leb, le-ltb, ltb-true, leb-true, leb, ltb, sum_by}
use Rattle.std.proofs.lemmas.Bool.{lt-leb}
use Rattle.std.proofs.lemmas.List.Sums.{sum_by-le-sum_by}
use Rattle.mesh.specs.declared.Heading.{Heading}
use Rattle.mesh.specs.declared.Heading.TheVariants.{North as N, South as S}
use Rattle.mesh.specs.Headings.{row_after, opposite}
use Rattle.mesh.specs.Blocks.{Block}
use Rattle.mesh.specs.Rules.{Trip}
use Rattle.mesh.specs.Walk.{detours}
use Rattle.mesh.proofs.Bools.{true-false}
use Rattle.theory_blocks.specs.Obstacles.{Listed}
use Rattle.theory_walk.proofs.Sums.{sum_less, detours-sum}
use Rattle.theory_walk.proofs.Coordinates.{pick, Off, north, south, To, east, west, level}
use Rattle.theory_walk.proofs.Crossing.{reach, far, near, far_column, Crosses, far-to, far-near}

if-le : (p q : Bool) (m n : ℕ) → (p ≡ true → (q ≡ true) × (m ≤ n)) → cond p m 0 ≤ cond q n 0
if-le true true m n f = (f refl).1
if-le true false m n f = true-false (f refl).0 refl
if-le false q m n f = omega arith

if-at-most : (p : Bool) (m n : ℕ) → m ≤ n → cond p m 0 ≤ n
if-at-most true m n h = h
if-at-most false m n h = omega arith

-- b is still to be met by a packet that goes to the s from column c
unfoldable pub coming : Heading → ℕ → Block → Bool
coming s c b = pick s (ltb c b.column) (leb (b.width + b.column) c)

-- b lies wholly on the destination's side of row r, which is to the a of the destination's row
unfoldable pub before : Heading → ℕ → Block → Bool
before a r b = pick a (leb (b.height + b.row) r) (ltb r b.row)

-- what passing over or under b on the way to the destination's row may cost from column c on: two hops for each column
unfoldable pub passing : ℕ → Block → ℕ
passing c b = 2 * (min (b.width + b.column + 1) (c + 2) - b.column)

-- twice the height of a block that crosses the destination's row
unfoldable pub crossing : Trip → Block → ℕ
crossing t b = cond (leb b.row t.R && ltb t.R (b.height + b.row)) (2 * b.height) 0

-- going to the s in the destination's row
unfoldable pub rest : Trip → Heading → ℕ → Block → ℕ
rest t s c b = cond (coming s c b) (crossing t b) 0

-- going to that row from the a of it
unfoldable pub detour : Trip → Heading → ℕ → ℕ → Block → ℕ
detour t a r c b = cond (before a r b) (passing c b) 0 + crossing t b

passing-le : (c c' : ℕ) → c' ≤ c → (b : Block) → passing c' b ≤ passing c b
unfolding passing
passing-le c c' h b = omega arith

detour-le : (t : Trip) (a : Heading) (r r' c c' : ℕ) (b : Block) → (before a r' b ≡ true → before a r b ≡ true) → c' ≤ c →
    detour t a r' c' b ≤ detour t a r c b
unfolding detour
detour-le t a r r' c c' b f h =
    let i = if-le (before a r' b) (before a r b) (passing c' b) (passing c b) (λ p. (f p, passing-le c c' h b)) in omega arith

module _ {t : Trip} where
  coming-le : {s : Heading} {c c' x x' : ℕ} → To t c x s → To t c' x' s → x' ≤ x → (b : Block) → coming s c' b ≡ true → coming s c b ≡ true
  unfolding coming
  coming-le {c = c} {c' = c'} (east e) (east f) h b t = let p = ltb-true c' b.column t in lt-ltb c b.column (omega arith)
  coming-le {c = c} {c' = c'} (west e) (west f) h b t = let p = leb-true (b.width + b.column) c' t in le-leb (b.width + b.column) c (omega arith)

  rest_le : {s : Heading} {c c' x x' : ℕ} → To t c x s → To t c' x' s → x' ≤ x → (b : Block) → rest t s c' b ≤ rest t s c b
  unfolding rest
  rest_le t t' h b = if-le _ _ _ _ (λ p. (coming-le t t' h b p, omega arith))

  pub rest-on : {s : Heading} {c c' x x' : ℕ} (bs : List Block) → To t c x s → To t c' x' s → x' ≤ x → sum_by (rest t s c') bs ≤ sum_by (rest t s c) bs
  rest-on bs t t' h = sum_by-le-sum_by _ _ bs (rest_le t t' h)

  before-in : {a : Heading} {r k : ℕ} → Off t r (suc k) a → (b : Block) → before a (row_after (opposite a) r) b ≡ true → before a r b ≡ true
  unfolding before row_after opposite
  before-in {r = r} (north e) b t = let p = leb-true (b.height + b.row) (r - 1) t in le-leb (b.height + b.row) r (omega arith)
  before-in {r = r} (south e) b t = let p = ltb-true (r + 1) b.row t in lt-ltb r b.row (omega arith)

  pub detour-in : {a : Heading} {r k : ℕ} (c : ℕ) (bs : List Block) → Off t r (suc k) a →
      sum_by (detour t a (row_after (opposite a) r) c) bs ≤ sum_by (detour t a r c) bs
  detour-in {a} {r} c bs o =
      sum_by-le-sum_by _ _ bs (λ b. detour-le t a r (row_after (opposite a) r) c c b (before-in o b) (omega arith))

module _ (t : Trip) where
  pub rest-detour : (s a : Heading) (r c c' : ℕ) (bs : List Block) → sum_by (rest t s c') bs ≤ sum_by (detour t a r c) bs
  unfolding rest detour
  rest-detour s a r c c' bs = sum_by-le-sum_by _ _ bs (λ b. let h = if-at-most (coming s c' b) (crossing t b) (crossing t b) (omega arith) in omega arith)

  -- two columns west, over or under b
  pub detour-two : (a : Heading) (r c : ℕ) {b : Block} (bs : List Block) → Listed b bs → before a r b ≡ true → b.column ≤ c →
      c < b.width + b.column → 2 ≤ c →
      sum_by (detour t a r (c - 2)) bs + 4 ≤ sum_by (detour t a r c) bs
  unfolding detour
  detour-two a r c {b} bs m e h k two =
      sum_less _ _ 4 (λ b. detour-le t a r r c (c - 2) b (λ p. p) (omega arith)) b (rw e (unfold passing in omega arith)) bs m

  -- the bound of demand 3 has room for all detours
  pub detour-all : (a : Heading) (r c : ℕ) (bs : List Block) → sum_by (detour t a r c) bs ≤ detours bs
  unfolding detour crossing passing
  detour-all a r c bs = rw (detours-sum bs) (sum_by-le-sum_by _ _ bs each)
    where
      each : (b : Block) → detour t a r c b ≤ 2 * (b.width + b.height + 1)
      each b =
          let h = if-at-most (leb b.row t.R && ltb t.R (b.height + b.row)) (2 * b.height) (2 * b.height) (omega arith) in
          let k = if-at-most (before a r b) (passing c b) (2 * (b.width + 1)) (omega arith) in omega arith

module _ {t : Trip} {bs : List Block} {s : Heading} {b : Block} (q : Crosses t bs s b) where
  crossing-at : crossing t b ≡ 2 * b.height
  unfolding crossing
  crossing-at = rw (le-leb b.row t.R q.low, lt-ltb t.R (b.height + b.row) q.high)

met-once : {t : Trip} {bs : List Block} {s : Heading} {b : Block} {c x : ℕ} → Crosses t bs s b → To t c x s → near t s b < x →
    (coming s c b ≡ true) × (coming s (far_column s b) b ≡ false)
unfolding far near coming far_column
met-once {b = b} {c = c} q (east e) h = (lt-ltb c b.column (omega arith), le-ltb (b.width + b.column - 1) b.column (omega arith))
met-once {b = b} {c = c} q (west e) h = (le-leb (b.width + b.column) c (omega arith), lt-leb (b.width + b.column) b.column (omega arith))

module _ {t : Trip} {bs : List Block} {s : Heading} {b : Block} {c x : ℕ} (q : Crosses t bs s b) (to : To t c x s) (h : near t s b < x) where
  rest-met : rest t s (far_column s b) b + 2 * suc (reach t N b + reach t S b) ≤ rest t s c b
  unfolding rest reach
  rest-met = let m = met-once q to h in rw (m.0, m.1, crossing-at q) (omega arith)

  -- the block that stops the packet leaves the sum
  pub rest-cut : sum_by (rest t s (far_column s b)) bs + 2 * suc (reach t N b + reach t S b) ≤ sum_by (rest t s c) bs
  rest-cut = let f = far-near (level to) q in sum_less _ _ _ (rest_le to (far-to (level to) q) (omega arith)) b rest-met bs q.listed
