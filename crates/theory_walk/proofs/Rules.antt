-- The hop rules by what is to go: for each rule, what holds of either hop holds of the hop by the rules. Assumes nothing.
use Rattle.std.proofs.Common.{Option, Some, None, ◌≡◌, refl, ◌∙◌, sym, Bool, true, false, not, cond, ◌&&◌, ◌||◌, ℕ, zero, suc, ◌+◌, ◌-◌, ◌≤◌, arith, lt-ltb, le-ltb, le-leb, leb-true, eq-eqb, ne_eqb, leb}
use Rattle.std.proofs.lemmas.Bool.{and_parts, cond_both}
use Rattle.mesh.specs.declared.Heading.{Heading}
use Rattle.mesh.specs.declared.Heading.TheVariants.{East as E, North as N, South as S, West as W}
use Rattle.mesh.specs.Headings.{row_after, opposite}
use Rattle.mesh.specs.Nodes.{ahead}
use Rattle.mesh.specs.Rules.{Trip, blocked, side, toward, own, stopped, again, in_row, leaving, across, nearing, other_row, hop}
use Rattle.theory_walk.proofs.Bools.{bit}
use Rattle.theory_walk.proofs.Coordinates.{Level, to-east, to-west, Sight, right, left, Off, north, south, To, east, west, not_own, not_own-le, level, off-other}

-- the tests of the rules, with what each outcome tells
turn_by : (P : Heading → Type 0) (a b : Bool) {x y : Heading} → (bit (not a) ≡ 0 → b ≡ false → P x) →
    (1 ≤ bit (not a) + bit b → P y) → P (cond (a && not b) x y)
turn_by P true true f g = g (omega arith)
turn_by P true false f g = f refl refl
turn_by P false true f g = g (omega arith)
turn_by P false false f g = g (omega arith)

look-by : (P : Heading → Type 0) (p a q : Bool) {x y : Heading} → (p ≡ true → P x) → (bit (not a) ≡ 0 → q ≡ true → P x) →
    (p ≡ false → (bit (not a) ≡ 0 → q ≡ false) → P y) → P (cond (p || (a && q)) x y)
look-by P true a q f g h = f refl
look-by P false true true f g h = g refl refl
look-by P false true false f g h = h refl (λ e. refl)
look-by P false false q f g h = h refl (λ e. absurd (omega arith))

-- the last hop and the side by which rules 4 and 6 go on: no last hop counts as W
pub data Across : Option Heading → Heading → Type 0 where
  first : Across None W
  went-east : Across (Some E) E
  went-west : Across (Some W) W

pub went : {s : Heading} → Level s → Across (Some s) s
went to-east = went-east
went to-west = went-west

-- a bad node in sight to the side: the next one, or in an own column the second
pub record Stop (t : Trip) (r c : ℕ) (s : Heading) : Type 0 where
  pub i : ℕ
  pub j : ℕ
  pub one : 1 ≤ i
  pub two : i + not_own t s c ≤ 2
  pub sight : Sight c i j s
  pub bad : t.bad r j ≡ true

pub record Open (t : Trip) (r c : ℕ) (s : Heading) : Type 0 where
  pub free : (i j : ℕ) → 1 ≤ i → i + not_own t s c ≤ 2 → Sight c i j s → t.bad r j ≡ false

seen : (t : Trip) {s : Heading} {c i j : ℕ} (r : ℕ) → Sight c i j s → blocked t s i r c ≡ t.bad r j
unfolding blocked ahead
seen t r (right e) = rw e
seen t {c = c} {i = i} {j = j} r (left e) = let h : c - i ≡ j = omega arith in rw (le-leb i c (omega arith), h)

module _ {t : Trip} where
  stop-at : {s : Heading} (r c i : ℕ) → Level s → 1 ≤ i → i + not_own t s c ≤ 2 → blocked t s i r c ≡ true → Stop t r c s
  unfolding blocked ahead
  stop-at r c i to-east h k e = record { i = i; j = c + i; one = h; two = k; sight = right refl; bad = e }
  stop-at r c i to-west h k e =
      let b = and_parts (leb i c) _ e in
      let f = leb-true i c b.0 in
      record { i = i; j = c - i; one = h; two = k; sight = left (omega arith); bad = b.1 }

  open_at : {s : Heading} (r c : ℕ) → blocked t s 1 r c ≡ false → (not_own t s c ≡ 0 → blocked t s 2 r c ≡ false) → Open t r c s
  open_at {s} r c p q = record { free = in-sight }
    where
      in-sight : (i j : ℕ) → 1 ≤ i → i + not_own t s c ≤ 2 → Sight c i j s → t.bad r j ≡ false
      in-sight zero j h k v = absurd (omega arith)
      in-sight (suc zero) j h k v = sym (seen t r v) ∙ p
      in-sight (suc (suc zero)) j h k v = sym (seen t r v) ∙ q (omega arith)
      in-sight (suc (suc (suc i))) j h k v = absurd (omega arith)

  side-is : {s : Heading} {c x : ℕ} → To t c x s → 1 ≤ x → side t c ≡ s
  unfolding side
  side-is {c = c} (east e) h = rw (lt-ltb c t.C (omega arith))
  side-is {c = c} (west e) h = rw (le-ltb c t.C (omega arith))

  by-stopped : (P : Heading → Type 0) {s h : Heading} {c x : ℕ} (r : ℕ) → To t c x s → 1 ≤ x →
      (Stop t r c s → P h) → (Open t r c s → P s) → P (cond (stopped t r c) h (side t c))
  unfolding stopped not_own
  by-stopped P {s} {h} {c} r to x f g =
      rw (side-is to x)
      (look-by P (blocked t s 1 r c) (own t s c) (blocked t s 2 r c)
      (λ e. f (stop-at r c 1 (level to) (omega arith) (let k = not_own-le t s c in omega arith) e))
      (λ a e. f (stop-at r c 2 (level to) (omega arith) (omega arith) e))
      (λ e k. g (open_at r c e k)))

  -- rule 2
  pub by-in_row : (P : Heading → Type 0) {s : Heading} {r c x : ℕ} (l : Option Heading) → r ≡ t.R → To t c x s → 1 ≤ x →
      (Stop t r c s → P (again l)) → (Open t r c s → P s) → P (hop t r c l)
  unfolding hop in_row
  by-in_row P {r = r} l e to x f g = rw (eq-eqb r t.R e) (by-stopped P r to x f g)

  other_row_lem : {a : Heading} {r k : ℕ} (c : ℕ) (l : Option Heading) → Off t r (suc k) a → hop t r c l ≡ other_row t r c l
  unfolding hop
  other_row_lem {r = r} c l o = rw (ne_eqb r t.R (off-other o))

  -- rule 3
  pub by-leaving : (P : Heading → Type 0) {s a : Heading} {r c k x : ℕ} → Off t r (suc k) a → To t c x s → 1 ≤ x →
      (Stop t r c s → P a) → (Open t r c s → P s) → P (hop t r c (Some a))
  unfolding other_row leaving
  by-leaving P {r = r} {c = c} (north e) to x f g = rw (other_row_lem c (Some N) (north e), le-ltb r t.R (omega arith)) (by-stopped P r to x f g)
  by-leaving P {r = r} {c = c} (south e) to x f g = rw (other_row_lem c (Some S) (south e), lt-ltb r t.R (omega arith)) (by-stopped P r to x f g)

  -- the node next toward the destination's row
  toward-is : {a : Heading} {r k : ℕ} → Off t r (suc k) a → toward t r ≡ opposite a
  unfolding toward opposite
  toward-is {r = r} (north e) = rw (le-ltb r t.R (omega arith))
  toward-is {r = r} (south e) = rw (lt-ltb r t.R (omega arith))

  next-in : {a : Heading} {r k : ℕ} (c : ℕ) → Off t r (suc k) a → blocked t (opposite a) 1 r c ≡ t.bad (row_after (opposite a) r) c
  unfolding blocked ahead opposite row_after
  next-in {r = r} c (north e) = rw (le-leb 1 r (omega arith))
  next-in c (south e) = refl

  -- rules 4 and 6
  across-by : (P : Heading → Type 0) {s a : Heading} {r k : ℕ} (c : ℕ) → Off t r (suc k) a →
      (not_own t s c ≡ 0 → t.bad (row_after (opposite a) r) c ≡ false → P (opposite a)) →
      (1 ≤ not_own t s c + bit (t.bad (row_after (opposite a) r) c) → P s) → P (across t r c s)
  unfolding across not_own
  across-by P {s} {a} {r} c o f g = rw (toward-is o, next-in c o) (turn_by P (own t s c) (t.bad (row_after (opposite a) r) c) f g)

  pub by-across : (P : Heading → Type 0) {l : Option Heading} {s a : Heading} {r k : ℕ} (c : ℕ) → Across l s → Off t r (suc k) a →
      (not_own t s c ≡ 0 → t.bad (row_after (opposite a) r) c ≡ false → P (opposite a)) →
      (1 ≤ not_own t s c + bit (t.bad (row_after (opposite a) r) c) → P s) → P (hop t r c l)
  unfolding other_row
  by-across P {l} c first o f g = rw (other_row_lem c l o) (across-by P c o f g)
  by-across P {l} c went-east o f g = rw (other_row_lem c l o) (across-by P c o f g)
  by-across P {l} c went-west o f g = rw (other_row_lem c l o) (across-by P c o f g)

  -- rule 5
  nearing-is : {a : Heading} {r k : ℕ} (c : ℕ) → Off t r (suc k) a → hop t r c (Some (opposite a)) ≡ nearing t r c (opposite a)
  unfolding other_row opposite
  nearing-is {r = r} c (north e) = rw (other_row_lem c (Some S) (north e), le-ltb r t.R (omega arith))
  nearing-is {r = r} c (south e) = rw (other_row_lem c (Some N) (south e), lt-ltb r t.R (omega arith))

  pub by-nearing : (P : Heading → Type 0) {a : Heading} {r k : ℕ} (c : ℕ) → Off t r (suc k) a →
      (t.bad (row_after (opposite a) r) c ≡ true → P W) → (t.bad (row_after (opposite a) r) c ≡ false → P (opposite a)) → P (hop t r c (Some (opposite a)))
  unfolding nearing
  by-nearing P {a} {r} c o f g = rw (nearing-is c o, next-in c o) (cond_both (t.bad (row_after (opposite a) r) c) _ _ P f g)
