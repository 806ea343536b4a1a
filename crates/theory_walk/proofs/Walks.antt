-- Walks by the hop rules on any trip: when two agree, when one fails, and the places on the way of one that arrives. Assumes nothing.
use Rattle.std.proofs.Common.{◌≡◌, refl, Bool, true, false, cond, List, [], ◌∷◌, ◌⊎◌, inl, inr, ℕ, zero, suc, ◌≤◌, ◌<◌, arith, leb, length}
use Rattle.std.proofs.lemmas.Bool.{cases_Bool, and_parts, cond_both}
use Rattle.mesh.specs.declared.Heading.{Heading}
use Rattle.mesh.specs.declared.Heading.TheVariants.{East as E, North as N, South as S, West as W}
use Rattle.mesh.specs.Headings.{row_after, column_after}
use Rattle.mesh.specs.Nodes.{ahead}
use Rattle.mesh.specs.Rules.{Trip, blocked}
use Rattle.mesh.specs.Hops.{At, moved, stays, lawful}
use Rattle.mesh.specs.Walk.{arrived, lawful_route, hop_at, walk}
use Rattle.mesh.proofs.Bools.{true-false, and_right}
use Rattle.mesh.proofs.Hops.{stays_on, lawful-stays, lawful-enters}
use Rattle.theory_walk.specs.Course.{FreePlace}
use Rattle.theory_walk.specs.Claims.{Fails, now, later, reached, OnTheWay}

agree-by : (b : Bool) (h : Heading) {xs ys : List Heading} (n m : ℕ) → (length xs < n → length ys < m → xs ≡ ys) →
    length (cond b [] (h ∷ xs)) < suc n → length (cond b [] (h ∷ ys)) < suc m → cond b [] (h ∷ xs) ≡ cond b [] (h ∷ ys)
agree-by true h n m same p q = refl
agree-by false h n m same p q = rw (same (omega arith) (omega arith))

module _ (t : Trip) where
  -- a walk from p that begins with a hop to the h fails
  abbrev pub FailsBy : At → Heading → Type 0
  FailsBy p h = (lawful t p h ≡ false) ⊎ Fails t (moved h p)

  pub fails_by : {p : At} → arrived t p ≡ false → FailsBy p (hop_at t p) → Fails t p
  fails_by e (inl f) = now e f
  fails_by {p} e (inr g) = known (cases_Bool (lawful t p (hop_at t p)))
    where
      known : (lawful t p (hop_at t p) ≡ true) ⊎ (lawful t p (hop_at t p) ≡ false) → Fails t p
      known (inl t) = later e t g
      known (inr f) = now e f

  -- a walk that ends before its fuel does not depend on it
  pub walks-agree : (n m : ℕ) (p : At) → length (walk n t p) < n → length (walk m t p) < m → walk n t p ≡ walk m t p
  unfolding walk
  walks-agree zero m p i j = absurd (omega arith)
  walks-agree (suc n) zero p i j = absurd (omega arith)
  walks-agree (suc n) (suc m) p i j = agree-by (arrived t p) (hop_at t p) n m (walks-agree n m (moved (hop_at t p) p)) i j

  -- a walk with an unlawful hop is no lawful route, whatever its fuel
  pub fails-unlawful : (m : ℕ) {p : At} → Fails t p → lawful_route t p (walk m t p) ≡ true → ⊥
  unfolding walk lawful_route
  fails-unlawful zero (now e f) l = true-false l e
  fails-unlawful zero (later e f k) l = true-false l e
  fails-unlawful (suc m) {p} (now e f) l = true-false (and_parts (lawful t p (hop_at t p)) _ (rw e at l)).0 f
  fails-unlawful (suc m) {p} (later e f k) l = fails-unlawful m k (and_parts (lawful t p (hop_at t p)) _ (rw e at l)).1

  enters-free : (p : At) (h : Heading) → stays t.columns t.rows h p.row p.column ≡ true → blocked t h 1 p.row p.column ≡ false →
      t.bad (row_after h p.row) (column_after h p.column) ≡ false
  unfolding stays blocked ahead row_after column_after
  enters-free p E s b = b
  enters-free p N s b = b
  enters-free p S s b = and_right (leb 1 p.row) _ s b
  enters-free p W s b = and_right (leb 1 p.column) _ s b

  -- a lawful hop leads from a free place to a free place
  lawful-free : (p : At) (h : Heading) → lawful t p h ≡ true → FreePlace t p.row p.column → FreePlace t (moved h p).row (moved h p).column
  unfolding moved
  lawful-free p h l o =
      let s = lawful-stays t p h l in
      let (row, column) = stays_on h o.row o.column s in
      record { row = row; column = column; free = enters-free p h s (lawful-enters t p h l) }

  at-end : (k : ℕ) (p : At) → FreePlace t p.row p.column → arrived t p ≡ true → k ≤ 0 → OnTheWay t [] k (reached k t p)
  unfolding reached
  at-end zero p f e h = record { place = f; hops = λ d i. absurd (omega arith); ends = λ i. e }
  at-end (suc k) p f e h = absurd (omega arith)

  here_or_on : (k : ℕ) (p : At) (hs : List Heading) → FreePlace t p.row p.column → arrived t p ≡ false → lawful t p (hop_at t p) ≡ true →
      ((j : ℕ) → j ≤ length hs → OnTheWay t hs j (reached j t (moved (hop_at t p) p))) → k ≤ suc (length hs) → OnTheWay t (hop_at t p ∷ hs) k (reached k t p)
  unfolding reached
  here_or_on zero p hs f e t on h =
      record { place = f; hops = λ d i. record { not-arrived = e; by-rule = refl; lawfully = t }; ends = λ i. absurd (omega arith) }
  here_or_on (suc k) p hs f e t on h =
      let next = on k (omega arith) in
      record { place = next.place; hops = λ d i. next.hops d (omega arith); ends = λ i. next.ends (omega arith) }

  pub on-the-way-from : (m k : ℕ) (p : At) → FreePlace t p.row p.column → lawful_route t p (walk m t p) ≡ true → k ≤ length (walk m t p) →
      OnTheWay t (walk m t p) k (reached k t p)
  unfolding walk lawful_route
  on-the-way-from zero k p f = at-end k p f
  on-the-way-from (suc m) k p f =
      cond_both (arrived t p) _ _ (λ hs. lawful_route t p hs ≡ true → k ≤ length hs → OnTheWay t hs k (reached k t p))
      (λ e l h. at-end k p f l h)
      (λ e l h.
      let both = and_parts (lawful t p (hop_at t p)) _ l in
      here_or_on k p _ f e both.0 (λ j. on-the-way-from m j (moved (hop_at t p) p) (lawful-free p (hop_at t p) both.0 f) both.1) h)
