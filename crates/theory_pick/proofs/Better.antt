-- The better of two answers, each a refusal or a number of hops. Assumes nothing.
use Rattle.std.proofs.Common.{◌≡◌, refl, sym, ◌∙◌, ◌↔◌, ◌≢◌, ℕ, zero, suc, ◌≤◌, ◌<◌, arith, lt-ltb, le-ltb}
use Rattle.std.proofs.Math.Decide.{dec_lt}
use Rattle.mesh.specs.declared.Network.{Network}
use Rattle.mesh.specs.declared.Network.TheVariants.{First, Second}
use Rattle.mesh.specs.Numbers.{answer}
use Rattle.theory_pick.specs.Picking.{route, none, better}

-- different picks
first-second {ℓ} : {A : Type ℓ} {m n : ℕ} → route First m ≡ route Second n → A
first-second e = let z : ◌≡◌ {A = ℕ} 0 1 = cc in absurd (omega arith)

route-none {ℓ} : {A : Type ℓ} {network : Network} {m k : ℕ} → route network m ≡ none k → A
route-none e = let z : ◌≡◌ {A = ℕ} 0 1 = cc in absurd (omega arith)

-- two routes
module _ (m n : ℕ) where
  second-shorter : n < m → better (answer 0 m) (answer 0 n) ≡ route Second n
  unfolding better answer
  second-shorter h = rw (lt-ltb n m h)

  first_short : m ≤ n → better (answer 0 m) (answer 0 n) ≡ route First m
  unfolding better answer
  first_short h = rw (le-ltb n m h)

pub first-better : (j m k n : ℕ) → better (answer j m) (answer k n) ≡ route First m ↔ ((j ≡ 0) × (k ≡ 0 → m ≤ n))
unfolding better answer
first-better zero m zero n =
    elim (dec_lt n m) [
      | yes h ↦ (λ e. first-second (sym e ∙ second-shorter m n h), λ f. let l = f.1 refl in absurd (omega arith))
      | no h ↦ (λ e. (refl, λ z. omega arith), λ f. first_short m n (omega arith))
    ]
first-better zero m (suc k) n = (λ e. (refl, λ z. absurd (omega arith)), λ f. refl)
first-better (suc j) m zero n = (λ e. first-second (sym e), λ f. absurd (omega (arith, f.0)))
first-better (suc j) m (suc k) n = (λ e. route-none (sym e), λ f. absurd (omega (arith, f.0)))

pub second-better : (j m k n : ℕ) → better (answer j m) (answer k n) ≡ route Second n ↔ ((k ≡ 0) × (j ≡ 0 → n < m))
unfolding better answer
second-better zero m zero n =
    elim (dec_lt n m) [
      | yes h ↦ (λ e. (refl, λ z. h), λ f. second-shorter m n h)
      | no h ↦ (λ e. first-second (sym (first_short m n (omega arith)) ∙ e), λ f. let l = f.1 refl in absurd (omega arith))
    ]
second-better zero m (suc k) n = (λ e. first-second e, λ f. absurd (omega (arith, f.0)))
second-better (suc j) m zero n = (λ e. (refl, λ z. absurd (omega arith)), λ f. refl)
second-better (suc j) m (suc k) n = (λ e. route-none (sym e), λ f. absurd (omega (arith, f.0)))

pub neither-better : (j m k n i : ℕ) → better (answer j m) (answer k n) ≡ none (suc i) ↔ ((j ≡ suc i) × (k ≢ 0))
unfolding better answer
neither-better zero m zero n i =
    elim (dec_lt n m) [
      | yes h ↦ (λ e. route-none (sym (second-shorter m n h) ∙ e), λ f. absurd (omega (arith, f.0)))
      | no h ↦ (λ e. route-none (sym (first_short m n (omega arith)) ∙ e), λ f. absurd (omega (arith, f.0)))
    ]
neither-better zero m (suc k) n i = (λ e. route-none e, λ f. absurd (omega (arith, f.0)))
neither-better (suc j) m zero n i = (λ e. route-none e, λ f. absurd (f.1 refl))
neither-better (suc j) m (suc k) n i = (λ e. (cc, λ z. absurd (omega arith)), λ f. rw f.0)

-- what is picked is a served network's route
pub first-served : (j m k n : ℕ) {x : ℕ} → better (answer j m) (answer k n) ≡ route First x → (j ≡ 0) × (x ≡ m)
unfolding better answer
first-served zero m zero n {x} e =
    elim (dec_lt n m) [
      | yes h ↦ first-second (sym e ∙ second-shorter m n h)
      | no h ↦ (let same : route First x ≡ route First m = sym e ∙ first_short m n (omega arith) in (refl, cc))
    ]
first-served zero m (suc k) n e = (refl, cc)
first-served (suc j) m zero n e = first-second (sym e)
first-served (suc j) m (suc k) n e = route-none (sym e)

pub second-served : (j m k n : ℕ) {x : ℕ} → better (answer j m) (answer k n) ≡ route Second x → (k ≡ 0) × (x ≡ n)
unfolding better answer
second-served zero m zero n {x} e =
    elim (dec_lt n m) [
      | yes h ↦ (let same : route Second x ≡ route Second n = sym e ∙ second-shorter m n h in (refl, cc))
      | no h ↦ first-second (sym (first_short m n (omega arith)) ∙ e)
    ]
second-served zero m (suc k) n e = first-second e
second-served (suc j) m zero n e = (refl, cc)
second-served (suc j) m (suc k) n e = route-none (sym e)
