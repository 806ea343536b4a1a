-- A walk as long as the stages of `Rank` have room for: on a mesh without bad nodes a tour goes west through all columns and back east, and along
-- each one at the stage that has its line. Assumes nothing.
use Rattle.std.proofs.Common.{Option, Some, None, ◌≡◌, refl, inl, inr, Bool, true, false, not, List, [], ◌∷◌, ℕ, zero, suc, ◌+◌, ◌-◌, ◌≤◌, ◌<◌, sub-one, arith, le-leb, lt-ltb, length}
use Rattle.std.proofs.lemmas.Bool.{cases_Bool}
use Rattle.std.proofs.Math.Bool.{and-false}
use Rattle.std.proofs.Math.Decide.{ℕ_discrete}
use Rattle.mesh.specs.declared.Heading.{Heading}
use Rattle.mesh.specs.declared.Heading.TheVariants.{East as E, North as N, South as S, West as W}
use Rattle.mesh.specs.Headings.{row_after, column_after}
use Rattle.mesh.specs.Nodes.{ahead}
use Rattle.mesh.specs.Rules.{Trip, blocked}
use Rattle.mesh.specs.Hops.{At, moved, stays, lawful}
use Rattle.mesh.proofs.Hops.{state}
use Rattle.theory_judging.specs.Claims.{lawful_hops}
use Rattle.theory_channels.specs.Rank.{westbound, eastbound}
use Rattle.theory_channels.specs.Claims.{Permitted, first, straight, WN, WS, NE, SE, NW, SW, EN, ES, most_lawful}
use Rattle.theory_channels.proofs.Turns.{permitted-true}
use Rattle.theory_channels.proofs.Stages.{has_line, line-west, line-east, no-line-west, no-line-east, line-middle, start, start_none, start-line, start-no-line, all-stages}

-- N or S
abbrev vertical : Bool → Heading
vertical true = N
vertical false = S

-- the last hop of a packet that is bound west and has made no hop N or S in its column
data BoundWest : Option Heading → Type 0 where
  begins : BoundWest None
  from-east : BoundWest (Some W)

-- after n hops the packet at p can complete the tour
pub record Rest (t : Trip) (n : ℕ) (p : At) : Type 0 where
  pub hops : List Heading
  pub are-lawful : lawful_hops t p hops ≡ true
  pub whole : n + length hops ≡ most_lawful t.columns t.rows

module _ (t : Trip) (free : (r c : ℕ) → t.bad r c ≡ false) (tall : 1 < t.rows) where
  -- one hop: it stays on the mesh, and its turn is permitted
  not-blocked : (h : Heading) (r c : ℕ) → blocked t h 1 r c ≡ false
  unfolding blocked ahead
  not-blocked E r c = free r (c + 1)
  not-blocked N r c = free (r + 1) c
  not-blocked S r c = rw (free (r - 1) c, and-false)
  not-blocked W r c = rw (free r (c - 1), and-false)

  step : {n m : ℕ} {p q : At} {h : Heading} → Permitted t.west p.column p.last h → stays t.columns t.rows h p.row p.column ≡ true →
      moved h p ≡ q → Rest t m q → m ≡ suc n → Rest t n p
  unfolding lawful lawful_hops
  step {p = p} {h = h} turn stay to rest e =
      record {
        hops = h ∷ rest.hops;
        are-lawful = rw (stay, not-blocked h p.row p.column, permitted-true t.west p.column turn, to) rest.are-lawful;
        whole = omega (arith, rest.whole);
      }

  -- the row i hops from the edge at which a packet that goes N or S begins
  row_at : Bool → ℕ → ℕ
  row_at true i = i
  row_at false i = t.rows - suc i

  inside : (b : Bool) (i c : ℕ) → suc i < t.rows → stays t.columns t.rows (vertical b) (row_at b i) c ≡ true
  unfolding stays row_at
  inside true i c h = lt-ltb (i + 1) t.rows (omega arith)
  inside false i c h = le-leb 1 (t.rows - suc i) (omega arith)

  climbs : (b : Bool) {i j : ℕ} (c : ℕ) (l : Option Heading) → suc i ≡ j → j < t.rows → moved (vertical b) (state (row_at b i) c l) ≡ state (row_at b j) c (Some (vertical b))
  unfolding moved row_after column_after row_at
  climbs true {i} {j} c l e h = let up : i + 1 ≡ j = omega arith in rw up
  climbs false {i} {j} c l e h = let down : t.rows - suc i - 1 ≡ t.rows - suc j = omega arith in rw down

  far-edge : (b : Bool) → row_at b (t.rows - 1) ≡ row_at (not b) 0
  unfolding row_at
  far-edge true = refl
  far-edge false = omega arith

  -- k hops along a column and one more, from row i to row j so counted
  along : {n m : ℕ} (b : Bool) (c k i j : ℕ) (l : Option Heading) → Permitted t.west c l (vertical b) → i + suc k ≡ j → j < t.rows →
      Rest t m (state (row_at b j) c (Some (vertical b))) → m ≡ suc k + n → Rest t n (state (row_at b i) c l)
  along b c zero i j l turn e h rest count =
      step turn (inside b i c (omega arith)) (climbs b c l (omega arith) h) rest (omega arith)
  along {n} b c (suc k) i j l turn e h rest count =
      step turn (inside b i c (omega arith)) (climbs b c l refl (omega arith))
      (along {n = suc n} b c k (suc i) j (Some (vertical b)) straight (omega arith) h rest (omega arith))
      refl

  -- all along it
  across : {n m : ℕ} {c : ℕ} {l : Option Heading} (b : Bool) → Permitted t.west c l (vertical b) →
      Rest t m (state (row_at (not b) 0) c (Some (vertical b))) → m ≡ n + (t.rows - 1) → Rest t n (state (row_at b 0) c l)
  across {m = m} {c = c} {l = l} b turn rest count =
      along {m = m} b c (t.rows - 2) 0 (t.rows - 1) l turn (omega arith) (omega arith) (rw (far-edge b) rest) (omega arith)

  -- The arrival in column c at stage k, to begin there N or S.
  abbrev Arrives : ℕ → ℕ → Option Heading → Type 0
  Arrives k c l = (b : Bool) → Rest t (start t k) (state (row_at b 0) c l)

  -- a hop E or W to column x
  record Onward (c : ℕ) (s : Heading) (x : ℕ) : Type 0 where
    pub stay : (r : ℕ) → stays t.columns t.rows s r c ≡ true
    pub lands : (r : ℕ) (l : Option Heading) → moved s (state r c l) ≡ state r x (Some s)

  to-east : (c : ℕ) → c + 1 < t.columns → Onward c E (c + 1)
  unfolding stays moved row_after column_after
  to-east c i = record { stay = λ r. lt-ltb (c + 1) t.columns i; lands = λ r l. refl }

  to-west : (c : ℕ) → Onward (suc c) W c
  unfolding stays moved row_after column_after
  to-west c = record { stay = λ r. le-leb 1 (suc c) (omega arith); lands = λ r l. rw sub-one }

  -- where the stage has the column's line: along it, and on
  visit : (k c x : ℕ) (l : Option Heading) (s : Heading) → has_line t k ≡ true → ((b : Bool) → Permitted t.west c l (vertical b)) →
      ((b : Bool) → Permitted t.west c (Some (vertical b)) s) → Onward c s x → Arrives (suc k) x (Some s) → Arrives k c l
  visit k c x l s mine turn out on rest b =
      across b (turn b) (step (out b) (on.stay _) (on.lands _ _) (rest (not b)) (omega (arith, start-line t k mine))) refl

  -- else on at once
  pass : (k c x : ℕ) (l : Option Heading) (s : Heading) → has_line t k ≡ false → Permitted t.west c l s → Onward c s x → Arrives (suc k) x (Some s) → Arrives k c l
  pass k c x l s other out on rest b =
      step out (on.stay _) (on.lands _ _) (rest b) (omega (arith, start-no-line t k other))

  -- at the last stage: along the column, or no further
  module _ (k c : ℕ) (l : Option Heading) (wide : 0 < t.columns) (last : suc k ≡ t.columns + (t.columns - 1)) where
    all-before : start t (suc k) ≡ suc (most_lawful t.columns t.rows)
    all-before = rw last (all-stages t wide)

    stop : {n : ℕ} (p : At) → n ≡ most_lawful t.columns t.rows → Rest t n p
    unfolding lawful_hops
    stop p e = record { hops = []; are-lawful = refl; whole = omega arith }

    visit-last : has_line t k ≡ true → ((b : Bool) → Permitted t.west c l (vertical b)) → Arrives k c l
    visit-last mine turn b = across b (turn b) (stop _ (omega (arith, start-line t k mine, all-before))) refl

    pass-last : has_line t k ≡ false → Arrives k c l
    pass-last other b = stop _ (omega (arith, start-no-line t k other, all-before))

  -- the turns
  module _ {c : ℕ} where
    from-arrival : {l : Option Heading} → BoundWest l → (b : Bool) → Permitted t.west c l (vertical b)
    from-arrival begins b = first
    from-arrival from-east true = WN
    from-arrival from-east false = WS

    on-west : {l : Option Heading} → BoundWest l → Permitted t.west c l W
    on-west begins = first
    on-west from-east = straight

    turn-west : t.west c ≡ true → (b : Bool) → Permitted t.west c (Some (vertical b)) W
    turn-west e true = NW e
    turn-west e false = SW e

    from-west : t.west c ≡ false → (b : Bool) → Permitted t.west c (Some E) (vertical b)
    from-west e true = EN e
    from-west e false = ES e

    turn-east : (b : Bool) → Permitted t.west c (Some (vertical b)) E
    turn-east true = NE
    turn-east false = SE

  -- back east, from a column that n others lie east of
  eastward : (n c : ℕ) → 1 ≤ c → c + n + 1 ≡ t.columns → Arrives (eastbound t.columns c) c (Some E)
  eastward zero c o e =
      elim (cases_Bool (t.west c)) [
        | inl w ↦ pass-last _ c (Some E) (omega arith) (omega arith) (no-line-east t c (omega arith) o w)
        | inr w ↦ visit-last _ c (Some E) (omega arith) (omega arith) (line-east t c (omega arith) w) (from-west w)
      ]
  eastward (suc n) c o e =
      let next : suc (eastbound t.columns c) ≡ eastbound t.columns (c + 1) = omega arith in
      let rest : Arrives (suc (eastbound t.columns c)) (c + 1) (Some E) = rw next (eastward n (c + 1) (omega arith) (omega arith)) in
      elim (cases_Bool (t.west c)) [
        | inl w ↦ pass _ c _ (Some E) E (no-line-east t c (omega arith) o w) straight (to-east c (omega arith)) rest
        | inr w ↦ visit _ c _ (Some E) E (line-east t c (omega arith) w) (from-west w) turn-east (to-east c (omega arith)) rest
      ]

  -- west, from column c
  westward : (c : ℕ) {l : Option Heading} → c < t.columns → BoundWest l → Arrives (westbound t.columns c) c l
  westward zero {l} i a =
      elim (ℕ_discrete t.columns 1) [
        | yes e ↦ visit-last _ 0 l i (omega arith) (line-middle t i) (from-arrival a)
        | no n ↦
            let next : suc (westbound t.columns 0) ≡ eastbound t.columns 1 = omega arith in
            let rest : Arrives (suc (westbound t.columns 0)) 1 (Some E) = rw next (eastward (t.columns - 2) 1 (omega arith) (omega arith)) in
            visit _ 0 1 l E (line-middle t i) (from-arrival a) turn-east (to-east 0 (omega arith)) rest
      ]
  westward (suc c) {l} i a =
      let next : suc (westbound t.columns (suc c)) ≡ westbound t.columns c = omega arith in
      let rest : Arrives (suc (westbound t.columns (suc c))) c (Some W) = rw next (westward c (omega arith) from-east) in
      elim (cases_Bool (t.west (suc c))) [
        | inl w ↦ visit _ (suc c) c l W (line-west t (suc c) i w) (from-arrival a) (turn-west w) (to-west c) rest
        | inr w ↦ pass _ (suc c) c l W (no-line-west t (suc c) i (omega arith) w) (on-west a) (to-west c) rest
      ]

  -- the whole tour, from the south-east corner
  pub tour : 0 < t.columns → Rest t 0 (state 0 (t.columns - 1) None)
  unfolding row_at
  tour wide =
      let begin : westbound t.columns (t.columns - 1) ≡ 0 = omega arith in
      rw (begin, start_none) at (westward (t.columns - 1) (omega arith) begins true)
