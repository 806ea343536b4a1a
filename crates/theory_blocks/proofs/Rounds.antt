-- Rounds of the rules: what each adds, that they end, and their number: that of the first round in which nothing changes. Assumes nothing.
use Rattle.std.proofs.Common.{◌≡◌, refl, ap, sym, ◌∙◌, inl, inr, Bool, true, false, List, [], ◌∷◌, ℕ, zero, suc, ◌+◌, ◌*◌, ◌/◌, ◌%◌, ◌≤◌, ◌<◌, add-zero, add-suc, suc-add, arith, length, get_or}
use Rattle.std.proofs.lemmas.Bool.{cases_Bool}
use Rattle.std.proofs.Math.Decide.{dec_lt}
use Rattle.mesh.specs.Mesh.{Mesh}
use Rattle.mesh.specs.Nodes.{how_many, bad, unsafe}
use Rattle.mesh.specs.Rounds.{become, advance, round, on, same_list, later, settle, settled, marked, rounds}
use Rattle.mesh.proofs.Lists.{same-eq, same_refl}
use Rattle.mesh.proofs.Bools.{true-false}
use Rattle.mesh.proofs.Counts.{how_many-le}
use Rattle.theory_blocks.specs.Rounds.{safe_nodes, unsafe_nodes, after, FirstQuiet}
use Rattle.theory_blocks.proofs.Rules.{Reason, between-two, crossed, unsafe-reason}

-- One round.
length-advance : (u : ℕ → Bool) (i : ℕ) (xs : List ℕ) → length (advance u i xs) ≡ length xs
unfolding advance
length-advance u i [] = refl
length-advance u i (x ∷ xs) = ap suc (length-advance u (suc i) xs)

pub getD-advance : (u : ℕ → Bool) (i : ℕ) (xs : List ℕ) (j : ℕ) → j < length xs → get_or (advance u i xs) j 0 ≡ become (u (i + j)) (get_or xs j 0)
unfolding advance
getD-advance u i [] j h = absurd (omega arith)
getD-advance u i (x ∷ xs) zero h = rw add-zero
getD-advance u i (x ∷ xs) (suc j) h = rw (add-suc, ← suc-add) (getD-advance u (suc i) xs j (omega arith))

pub round-length : (w : Mesh) → length (round w) ≡ length w.map
unfolding round
round-length w = length-advance _ 0 w.map

-- Rounds end: safe nodes become unsafe, nothing else changes, and if none does it is the same map.
record Fewer (xs ys : List ℕ) : Type 0 where
  pub no_more : safe_nodes ys ≤ safe_nodes xs
  pub or_same : safe_nodes xs ≤ safe_nodes ys → ys ≡ xs
  pub turned : safe_nodes ys + unsafe_nodes ys ≡ safe_nodes xs + unsafe_nodes xs

fewer : (b : Bool) (x : ℕ) {xs ys : List ℕ} → Fewer xs ys → Fewer (x ∷ xs) (become b x ∷ ys)
unfolding how_many become
fewer true zero f = record { no_more = omega arith; or_same = λ h. absurd (omega arith); turned = omega arith }
fewer false zero f = record { no_more = omega arith; or_same = λ h. rw (f.or_same (omega arith)); turned = omega arith }
fewer true (suc x) f = record { no_more = omega arith; or_same = λ h. rw (f.or_same (omega arith)); turned = omega arith }
fewer false (suc x) f = record { no_more = omega arith; or_same = λ h. rw (f.or_same (omega arith)); turned = omega arith }

advance-fewer : (u : ℕ → Bool) (i : ℕ) (xs : List ℕ) → Fewer xs (advance u i xs)
unfolding advance
advance-fewer u i [] = record { no_more = omega arith; or_same = λ h. refl; turned = refl }
advance-fewer u i (x ∷ xs) = fewer (u i) x (advance-fewer u (suc i) xs)

pub round-less : (w : Mesh) → (round w ≡ w.map → ⊥) → safe_nodes (round w) < safe_nodes w.map
unfolding round
round-less w changed =
    elim (dec_lt (safe_nodes (round w)) (safe_nodes w.map)) [
      | yes h ↦ h
      | no h ↦ absurd (changed ((advance-fewer _ 0 w.map).or_same (omega arith)))
    ]

-- as many as become unsafe
round-turned : (w : Mesh) → safe_nodes (round w) + unsafe_nodes (round w) ≡ safe_nodes w.map + unsafe_nodes w.map
unfolding round
round-turned w = (advance-fewer _ 0 w.map).turned

unlike : (w : Mesh) → same_list (round w) w.map ≡ false → round w ≡ w.map → ⊥
unlike w e s = true-false (same_refl w.map) (rw s at e)

unlike-less : (w : Mesh) → same_list (round w) w.map ≡ false → safe_nodes (round w) < safe_nodes w.map
unlike-less w e = round-less w (unlike w e)

-- more rounds than enough change nothing
settle-fuel : (k k' : ℕ) (w : Mesh) → safe_nodes w.map < k → safe_nodes w.map < k' → settle k w ≡ settle k' w
unfolding settle
settle-fuel zero k' w h h' = absurd (omega arith)
settle-fuel (suc k) zero w h h' = absurd (omega arith)
settle-fuel (suc k) (suc k') w h h' =
    elim (cases_Bool (same_list (round w) w.map)) [
      | inl e ↦ rw e
      | inr e ↦ rw e (ap later (settle-fuel k k' (on w (round w)) (omega (arith, unlike-less w e)) (omega (arith, unlike-less w e))))
    ]

-- what each round keeps, the marking has
pub settle-keeps : (M : List ℕ → Type 0) (k : ℕ) (w : Mesh) → ((m : List ℕ) → M m → M (round (on w m))) → M w.map → M (settle k w).map
unfolding settle
settle-keeps M zero w f i = i
settle-keeps M (suc k) w f i =
    elim (cases_Bool (same_list (round w) w.map))
    [ inl e ↦ rw e i | inr e ↦ rw e (settle-keeps M k (on w (round w)) f (f w.map i)) ]

pub marked-length : (w : Mesh) → length (marked w).map ≡ length w.map
marked-length w =
    settle-keeps (λ m. length m ≡ length w.map) (suc (w.columns * w.rows)) w
    (λ m e. round-length (on w m) ∙ e) refl

-- For a loop of rounds: one that changes nothing is the last.
pub settled-last : (w : Mesh) → round w ≡ w.map → settled w ≡ record { map = w.map; rounds = 1 }
unfolding settle
settled-last w e = rw (e, same_refl w.map)

-- After one that changes something the others come to the same.
pub settled-later : (w : Mesh) → length w.map ≡ w.columns * w.rows → (round w ≡ w.map → ⊥) → settled w ≡ later (settled (on w (round w)))
unfolding settle
settled-later w size changed =
    elim (cases_Bool (same_list (round w) w.map)) [
      | inl e ↦ absurd (changed (same-eq _ _ e))
      | inr e ↦
          rw e
          (ap later
          (settle-fuel (w.columns * w.rows) (suc (w.columns * w.rows)) (on w (round w))
          (omega (arith, unlike-less w e, how_many-le 0 w.map))
          (omega (arith, unlike-less w e, how_many-le 0 w.map))))
    ]

-- every round but the last makes a node unsafe
pub rounds-within : (k : ℕ) (w : Mesh) → (settle k w).rounds + unsafe_nodes w.map ≤ unsafe_nodes (settle k w).map + 1
unfolding settle
rounds-within zero w = omega arith
rounds-within (suc k) w =
    elim (cases_Bool (same_list (round w) w.map)) [
      | inl e ↦ rw e (omega arith)
      | inr e ↦ rw e (omega (arith, rounds-within k (on w (round w)), unlike-less w e, round-turned w))
    ]

-- so they fit a number of 32 bits
pub rounds-few : (w : Mesh) → length w.map ≡ w.columns * w.rows → rounds w ≤ w.columns * w.rows + 1
rounds-few w size =
    omega (arith, rounds-within (suc (w.columns * w.rows)) w, how_many-le 2 (marked w).map, marked-length w)

-- The rounds one after the other.
last-quiet : (w : Mesh) → round w ≡ w.map → FirstQuiet w 1 w.map
unfolding after
last-quiet w e = record { before = 0; number = refl; changing = λ j h. absurd (omega arith); quiet = e; result = refl }

later-quiet : (w : Mesh) {n : ℕ} {m : List ℕ} → (round w ≡ w.map → ⊥) → FirstQuiet (on w (round w)) n m → FirstQuiet w (suc n) m
unfolding after
later-quiet w changed q =
    record {
      before = suc q.before;
      number = ap suc q.number;
      changing = changing;
      quiet = q.quiet;
      result = q.result;
    }
  where
    changing : (j : ℕ) → j < suc q.before → round (on w (after j w)) ≡ after j w → ⊥
    changing zero h = changed
    changing (suc j) h = q.changing j (omega arith)

within-quiet : (k : ℕ) (w : Mesh) → safe_nodes w.map < k → FirstQuiet w (settle k w).rounds (settle k w).map
unfolding settle
within-quiet zero w h = absurd (omega arith)
within-quiet (suc k) w h =
    elim (cases_Bool (same_list (round w) w.map)) [
      | inl e ↦ rw e (last-quiet w (same-eq _ _ e))
      | inr e ↦
          rw e (later-quiet w (unlike w e) (within-quiet k (on w (round w)) (omega (arith, unlike-less w e))))
    ]

pub marked-quiet : (w : Mesh) → length w.map ≡ w.columns * w.rows → FirstQuiet w (rounds w) (marked w).map
marked-quiet w size = within-quiet (suc (w.columns * w.rows)) w (omega (arith, how_many-le 0 w.map))

-- there is one such number, and one such map
no-sooner : {w : Mesh} {n n' : ℕ} {m m' : List ℕ} (p : FirstQuiet w n m) (q : FirstQuiet w n' m') → ¬ (p.before < q.before)
no-sooner p q h = q.changing p.before h (rw p.result p.quiet)

pub quiet-once : {w : Mesh} {n n' : ℕ} {m m' : List ℕ} → FirstQuiet w n m → FirstQuiet w n' m' → (n ≡ n') × (m ≡ m')
quiet-once {w} p q =
    let l = no-sooner p q in
    let g = no-sooner q p in
    let e : p.before ≡ q.before = omega arith in
    (omega (arith, p.number, q.number), sym p.result ∙ ap (λ k. after k w) e ∙ q.result)

-- One round, exactly if nothing becomes unsafe.
module _ (w : Mesh) (size : length w.map ≡ w.columns * w.rows) where
  pub one-round-same : rounds w ≡ 1 → (marked w).map ≡ w.map
  unfolding after
  one-round-same e =
      let q = marked-quiet w size in
      let z : q.before ≡ 0 = omega (arith, q.number) in
      sym q.result ∙ ap (λ k. after k w) z

  pub same-one-round : (marked w).map ≡ w.map → rounds w ≡ 1
  same-one-round e = ap (λ x. x.rounds) (settled-last w (rw e at (marked-quiet w size).quiet))

-- Where nothing is bad nothing becomes unsafe.
no-reason : {B : ℕ → ℕ → Bool} {r c : ℕ} → ((x y : ℕ) → B x y ≡ false) → ¬ Reason B r c
no-reason {r = r} none (between-two y q w e) = true-false w (none r y)
no-reason {c = c} none (crossed u a) = true-false u.here (none u.place c)

become-none : {b : Bool} (x : ℕ) → b ≡ false → become b x ≡ x
unfolding become
become-none zero e = rw e
become-none (suc x) e = rw e

advance-none : (u : ℕ → Bool) (i : ℕ) (xs : List ℕ) → ((j : ℕ) → u j ≡ false) → advance u i xs ≡ xs
unfolding advance
advance-none u i [] none = refl
advance-none u i (x ∷ xs) none = rw (become-none x (none i), advance-none u (suc i) xs none)

pub no-faults-quiet : (w : Mesh) → ((r c : ℕ) → bad w r c ≡ false) → round w ≡ w.map
unfolding round
no-faults-quiet w none =
    advance-none _ 0 w.map
    (λ i. elim (cases_Bool (unsafe (bad w) (i / w.columns) (i % w.columns))) [ inr e ↦ e | inl e ↦ absurd (no-reason none (unsafe-reason (bad w) _ _ e)) ])
