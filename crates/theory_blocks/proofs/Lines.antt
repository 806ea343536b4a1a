-- Runs of bad nodes along one line, and along lines side by side. Assumes nothing.
use Rattle.std.proofs.Common.{◌≡◌, refl, sym, ◌∙◌, inl, inr, Bool, true, false, ◌&&◌, ℕ, zero, suc, ◌+◌, ◌-◌, ◌≤◌, ◌<◌, arith, le-leb}
use Rattle.std.proofs.lemmas.Bool.{cases_Bool, lt-leb}
use Rattle.std.proofs.Math.Bool.{and-true}
use Rattle.std.proofs.Math.Decide.{dec_lt, dec_le, le_ind}
use Rattle.mesh.specs.Blocks.{run}
use Rattle.mesh.proofs.Bools.{true-false}
use Rattle.theory_blocks.proofs.Rules.{before}

-- P does not hold just before c, if there is a place before it
abbrev pub Begins : (ℕ → Bool) → ℕ → Type 0
Begins P c = (y : ℕ) → suc y ≡ c → P y ≡ false

-- P is v at the w places from c on
abbrev pub All : (ℕ → Bool) → Bool → ℕ → ℕ → Type 0
All P v c w = (y : ℕ) → c ≤ y → y < w + c → P y ≡ v

-- P holds from c on for w places, and neither just before nor just after
pub record Spans (P : ℕ → Bool) (c w : ℕ) : Type 0 where
  pub begins : Begins P c
  pub holds : All P true c w
  pub ends : (y : ℕ) → y ≡ w + c → P y ≡ false

module _ (P : ℕ → Bool) where
  pub before-begins : (c : ℕ) → before P 1 c ≡ false → Begins P c
  before-begins c e y q =
      let s : c - 1 ≡ y = omega arith in
      rw (le-leb 1 c (omega arith), s) at e

  pub begins-before : (c : ℕ) → Begins P c → before P 1 c ≡ false
  begins-before c b =
      elim (dec_le 1 c) [ yes h ↦ rw (le-leb 1 c h) (b (c - 1) (omega arith)) | no h ↦ rw (lt-leb 1 c (omega arith)) ]

  pub run_holds : (k c y : ℕ) → c ≤ y → y < run k P c + c → P y ≡ true
  unfolding run
  run_holds zero c y p q = absurd (omega arith)
  run_holds (suc k) c y p q =
      elim (cases_Bool (P c)) [
        | inl e ↦
            let u = rw e at q in
            elim (dec_lt c y) [ yes h ↦ run_holds k (suc c) y h (omega arith) | no h ↦ let s : y ≡ c = omega arith in rw s e ]
        | inr e ↦ let u = rw e at q in absurd (omega arith)
      ]

  -- what holds nowhere from b on
  module _ (b : ℕ) (out : (z : ℕ) → b ≤ z → P z ≡ false) where
    pub run_ends : (k c y : ℕ) → b ≤ k + c → y ≡ run k P c + c → P y ≡ false
    unfolding run
    run_ends zero c y h q = out y (omega arith)
    run_ends (suc k) c y h q =
        elim (cases_Bool (P c)) [
          | inl e ↦ let u = rw e at q in run_ends k (suc c) y (omega arith) (omega arith)
          | inr e ↦ let u = rw e at q in let s : y ≡ c = omega arith in rw s e
        ]

    pub run-reaches : (k c y : ℕ) → b ≤ k + c → c ≤ y → ((z : ℕ) → c ≤ z → z ≤ y → P z ≡ true) → y < run k P c + c
    run-reaches k c y h p all =
        elim (dec_lt y (run k P c + c)) [
          | yes q ↦ q
          | no q ↦ true-false (all (run k P c + c) (omega arith) (omega arith)) (run_ends k c (run k P c + c) h refl)
        ]

    pub run-some : (k c : ℕ) → b ≤ k + c → P c ≡ true → 0 < run k P c
    run-some k c h e = omega (arith, run-reaches k c c h (omega arith) (λ z p q. let s : z ≡ c = omega arith in rw s e))

-- where the run that holds c begins
pub record Lead (P : ℕ → Bool) (c : ℕ) : Type 0 where
  pub start : ℕ
  pub early : start ≤ c
  pub begins : Begins P start
  pub holds : (y : ℕ) → start ≤ y → y ≤ c → P y ≡ true

pub lead : (P : ℕ → Bool) (c : ℕ) → P c ≡ true → Lead P c
lead P c e = go c e
  where
    -- it begins at c
    now : (c : ℕ) → P c ≡ true → Begins P c → Lead P c
    now c e b = record { start = c; early = omega arith; begins = b; holds = λ y p q. let s : y ≡ c = omega arith in rw s e }

    go : (c : ℕ) → P c ≡ true → Lead P c
    go zero e = now zero e (λ y q. absurd (omega arith))
    go (suc c) e =
        elim (cases_Bool (P c)) [
          | inr u ↦ now (suc c) e (λ y q. let s : y ≡ c = omega arith in rw s u)
          | inl u ↦
              let l = go c u in
              record {
                start = l.start;
                early = omega arith;
                begins = l.begins;
                holds =
                    λ y p q. elim (dec_le y c) [ yes h ↦ l.holds y p h | no h ↦ let s : y ≡ suc c = omega arith in rw s e ];
              }
        ]

-- two lines side by side: of a two by two square, one pair of diagonal nodes is bad exactly if the other is
abbrev pub Alike : (ℕ → Bool) → (ℕ → Bool) → Type 0
Alike P Q = (n : ℕ) → P n && Q (suc n) ≡ Q n && P (suc n)

module _ (P Q : ℕ → Bool) (alike : Alike P Q) where
  same-before : (c y : ℕ) → P c ≡ true → Q c ≡ true → suc y ≡ c → P y ≡ Q y
  same-before c y p q e = simp (e, p, q, and-true) at (alike y)

  same-run : (k c : ℕ) → P c ≡ Q c → run k P c ≡ run k Q c
  unfolding run
  same-run zero c e = refl
  same-run (suc k) c e =
      elim (cases_Bool (P c)) [
        | inl p ↦ let q = sym e ∙ p in rw (p, q, same-run k (suc c) (sym (rw (p, q) at (alike c))))
        | inr p ↦ let q = sym e ∙ p in rw (p, q)
      ]

-- Lines side by side, all of which hold c from r to x: as far east, and as far west, as the first.
module _ (line : ℕ → ℕ → Bool) (alike : (x : ℕ) → Alike (line x) (line (suc x))) (k c r : ℕ) where
  pub record Same (x : ℕ) : Type 0 where
    pub west : (y : ℕ) → suc y ≡ c → line x y ≡ line r y
    pub east : run k (line x) c ≡ run k (line r) c

  pub same : (x : ℕ) → r ≤ x → ((z : ℕ) → r ≤ z → z ≤ x → line z c ≡ true) → Same x
  same =
      le_ind (λ x. ((z : ℕ) → r ≤ z → z ≤ x → line z c ≡ true) → Same x)
      (λ all. record { west = λ y e. refl; east = refl })
      (λ x h ih all.
      let s = ih (λ z p q. all z p (omega arith)) in
      let p = all x h (omega arith) in
      let q = all (suc x) (omega arith) (omega arith) in
      record {
        west = λ y e. sym (same-before (line x) (line (suc x)) (alike x) c y p q e) ∙ s.west y e;
        east = sym (same-run (line x) (line (suc x)) (alike x) k c (p ∙ sym q)) ∙ s.east;
      })
