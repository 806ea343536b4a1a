-- The rules that make a node unsafe, told by places, and what a marking that no rule adds to looks like in two rows. Assumes nothing.
use Rattle.std.proofs.Common.{◌≡◌, refl, inl, inr, Bool, true, false, ◌&&◌, ◌||◌, ℕ, suc, ◌+◌, ◌-◌, ◌≤◌, ◌<◌, add-one, arith, leb-true, le-leb, leb}
use Rattle.std.proofs.lemmas.Bool.{cases_Bool, and_parts, and_from, or_cases}
use Rattle.std.proofs.Math.Bool.{and_comm, or-true}
use Rattle.std.proofs.Math.Decide.{dec_lt, dec_le}
use Rattle.mesh.specs.Nodes.{ahead, upright, rule_a, rule_b, unsafe}
use Rattle.mesh.proofs.Bools.{true-false, bool-ext}
use Rattle.theory_blocks.specs.Marking.{Closed, NoneBeyond, Holds}

-- A line of nodes P is a row, B r, or a column.
abbrev pub column : (ℕ → ℕ → Bool) → ℕ → ℕ → Bool
column B c r = B r c

-- P holds k places before n; k places after it or before it
abbrev pub before : (ℕ → Bool) → ℕ → ℕ → Bool
before P k n = leb k n && P (n - k)

abbrev pub beside : (ℕ → Bool) → ℕ → ℕ → Bool
beside P k n = P (n + k) || before P k n

-- P holds at some other place, at most d from n
pub record Nearby (d : ℕ) (P : ℕ → Bool) (n : ℕ) : Type 0 where
  pub place : ℕ
  pub here : P place ≡ true
  pub other : place ≡ n → ⊥
  pub low : n ≤ place + d
  pub high : place ≤ n + d

-- why the rules make (r, c) unsafe: it lies between two bad nodes of its row, or has one next to it in its column and one near it in its row
pub data Reason (B : ℕ → ℕ → Bool) (r c : ℕ) : Type 0 where
  between-two : (y : ℕ) → suc y ≡ c → B r y ≡ true → B r (suc c) ≡ true → Reason B r c
  crossed : Nearby 1 (column B c) r → Nearby 2 (B r) c → Reason B r c

module _ (P : ℕ → Bool) (n : ℕ) where
  pub beside-nearby : (k d : ℕ) → 1 ≤ k → k ≤ d → beside P k n ≡ true → Nearby d P n
  beside-nearby k d l h e =
      elim (or_cases (P (n + k)) (before P k n) e) [
        | inl u ↦ record { place = n + k; here = u; other = omega arith; low = omega arith; high = omega arith }
        | inr u ↦
            let (f, v) = and_parts (leb k n) _ u in
            let i = leb-true k n f in
            record { place = n - k; here = v; other = omega arith; low = omega arith; high = omega arith }
      ]

  -- so far away, on either side
  record Distance (d : ℕ) : Type 0 where
    pub far : ℕ
    pub some : 1 ≤ far
    pub most : far ≤ d
    pub there : beside P far n ≡ true

  nearby-distance : {d : ℕ} → Nearby d P n → Distance d
  nearby-distance k =
      let p = k.place in
      elim (dec_lt n p) [
        | yes h ↦
            let e : n + (p - n) ≡ p = omega arith in
            record { far = p - n; some = omega arith; most = omega arith; there = rw (e, k.here) }
        | no h ↦
            let e : n - (n - p) ≡ p = omega arith in
            record {
              far = n - p;
              some = omega (arith, k.other);
              most = omega arith;
              there = rw (le-leb (n - p) n (omega arith), e, k.here, or-true);
            }
      ]

  pub nearby-beside : Nearby 1 P n → beside P 1 n ≡ true
  nearby-beside k =
      let u = nearby-distance k in
      let e : u.far ≡ 1 = omega arith in
      rw e at u.there

  pub nearby-second : Nearby 2 P n → beside P 1 n || beside P 2 n ≡ true
  nearby-second k =
      let u = nearby-distance k in
      elim (dec_le u.far 1) [
        | yes h ↦ let e : u.far ≡ 1 = omega arith in simp (rw e at u.there)
        | no h ↦ let e : u.far ≡ 2 = omega arith in simp (rw e at u.there, or-true)
      ]

-- at the same place, in a line that holds more
pub nearby-in : {d n : ℕ} (P R : ℕ → Bool) → ((n : ℕ) → P n ≡ true → R n ≡ true) → Nearby d P n → Nearby d R n
nearby-in P R f k = record { place = k.place; here = f k.place k.here; other = k.other; low = k.low; high = k.high }

both-rules : (f b s : Bool) → b || s ≡ true → (f || (b && true)) || (true && s) ≡ true
both-rules true b s e = refl
both-rules false true s e = refl
both-rules false false s e = e

module _ (B : ℕ → ℕ → Bool) (r c : ℕ) where
  reason-unsafe : Reason B r c → unsafe B r c ≡ true
  unfolding unsafe rule_a rule_b upright ahead
  reason-unsafe (between-two y q w e) =
      let s : c - 1 ≡ y = omega arith in
      rw (add-one c, e, le-leb 1 c (omega arith), s, w)
  reason-unsafe (crossed u a) =
      rw (nearby-beside (column B c) r u)
      (both-rules (B r (c + 1) && before (B r) 1 c) (beside (B r) 1 c) (beside (B r) 2 c) (nearby-second (B r) c a))

  pub unsafe-reason : unsafe B r c ≡ true → Reason B r c
  unfolding unsafe rule_a rule_b upright ahead
  unsafe-reason e =
      elim (or_cases (rule_a B r c) (rule_b B r c) e) [
        | inl a ↦
            elim (or_cases (B r (c + 1) && before (B r) 1 c) (beside (B r) 1 c && beside (column B c) 1 r) a) [
              | inl h ↦
                  let (p, q) = and_parts (B r (c + 1)) _ h in
                  let (f, w) = and_parts (leb 1 c) _ q in
                  let i = leb-true 1 c f in
                  between-two (c - 1) (omega arith) w (rw add-one at p)
              | inr h ↦
                  let (p, q) = and_parts (beside (B r) 1 c) _ h in
                  crossed (beside-nearby (column B c) r 1 1 (omega arith) (omega arith) q) (beside-nearby (B r) c 1 2 (omega arith) (omega arith) p)
            ]
        | inr b ↦
            let (q, p) = and_parts (beside (column B c) 1 r) _ b in
            crossed (beside-nearby (column B c) r 1 1 (omega arith) (omega arith) q) (beside-nearby (B r) c 2 2 (omega arith) (omega arith) p)
      ]

-- the rules find no less in a marking that holds more
pub unsafe-mono : {B Q : ℕ → ℕ → Bool} → Holds B Q → (r c : ℕ) → unsafe B r c ≡ true → unsafe Q r c ≡ true
unsafe-mono {B} {Q} m r c e = reason-unsafe Q r c (go (unsafe-reason B r c e))
  where
    go : Reason B r c → Reason Q r c
    go (between-two y q p e) = between-two y q (m.holds r y p) (m.holds r (suc c) e)
    go (crossed u a) = crossed (nearby-in (column B c) (column Q c) (λ x. m.holds x c) u) (nearby-in (B r) (Q r) (m.holds r) a)

-- a marking is closed if it holds whatever it gives a reason for
pub reasons-closed : (columns rows : ℕ) (B : ℕ → ℕ → Bool) → ((r c : ℕ) → Reason B r c → B r c ≡ true) → Closed columns rows B
reasons-closed columns rows B f =
    record {
      rests =
          λ r c p q e.
          elim (cases_Bool (unsafe B r c)) [ inr h ↦ h | inl h ↦ true-false (f r c (unsafe-reason B r c h)) e ];
    }

-- What closedness comes to, with no word of rules or of places before the first: in two rows next to each other, and in one.
pub record Settled (columns rows : ℕ) (B : ℕ → ℕ → Bool) : Type 0 where
  pub near : (r y y' : ℕ) → y ≤ y' → y' ≤ y + 2 → B r y && B (suc r) y' ≡ B (suc r) y && B r y'
  pub between : (r y : ℕ) → B r (suc y) ≡ false → B r y && B r (suc (suc y)) ≡ false
  pub east-edge : (x y : ℕ) → columns ≤ y → B x y ≡ false
  pub north-edge : (x y : ℕ) → rows ≤ x → B x y ≡ false

module _ {columns rows : ℕ} {B : ℕ → ℕ → Bool} (closed : Closed columns rows B) where
  pub unsafe-holds : (r c : ℕ) → r < rows → c < columns → unsafe B r c ≡ true → B r c ≡ true
  unsafe-holds r c p q u = elim (cases_Bool (B r c)) [ inl e ↦ e | inr e ↦ true-false u (closed.rests r c p q e) ]

  module _ (on-mesh : NoneBeyond columns rows B) where
    -- (x, c) and (r, y) are bad, next to (r, c) and one or two from it
    fills : (r c x y : ℕ) → B x c ≡ true → B r y ≡ true →
        (x ≡ r → ⊥) × (r ≤ x + 1) × (x ≤ r + 1) × (y ≡ c → ⊥) × (c ≤ y + 2) × (y ≤ c + 2) → B r c ≡ true
    fills r c x y p q (n, l, h, n', l', h') =
        unsafe-holds r c (on-mesh.row r y q) (on-mesh.column x c p)
        (reason-unsafe B r c
        (crossed (record { place = x; here = p; other = n; low = l; high = h }) (record { place = y; here = q; other = n'; low = l'; high = h' })))

    near : (r y y' : ℕ) → y ≤ y' → y' ≤ y + 2 → B r y && B (suc r) y' ≡ B (suc r) y && B r y'
    near r y y' p q =
        elim (dec_lt y y') [
          | no h ↦ let s : y' ≡ y = omega arith in rw s (and_comm (B r y) (B (suc r) y))
          | yes h ↦
              bool-ext _ _
              (λ e.
              let (a, b) = and_parts _ _ e in
              and_from _ _ (fills (suc r) y r y' a b (omega arith)) (fills r y' (suc r) y b a (omega arith)))
              (λ e.
              let (a, b) = and_parts _ _ e in
              and_from _ _ (fills r y (suc r) y' a b (omega arith)) (fills (suc r) y' r y b a (omega arith)))
        ]

    between : (r y : ℕ) → B r (suc y) ≡ false → B r y && B r (suc (suc y)) ≡ false
    between r y e =
        elim (cases_Bool (B r y && B r (suc (suc y)))) [
          | inr h ↦ h
          | inl h ↦
              let (a, b) = and_parts _ _ h in
              true-false
              (reason-unsafe B r (suc y) (between-two y refl a b))
              (closed.rests r (suc y) (on-mesh.row r y a) (omega (arith, on-mesh.column r (suc (suc y)) b)) e)
        ]

    pub settled : Settled columns rows B
    settled =
        record {
          near = near;
          between = between;
          east-edge = λ x y h. elim (cases_Bool (B x y)) [ inr e ↦ e | inl e ↦ absurd (omega (arith, on-mesh.column x y e)) ];
          north-edge = λ x y h. elim (cases_Bool (B x y)) [ inr e ↦ e | inl e ↦ absurd (omega (arith, on-mesh.row x y e)) ];
        }
