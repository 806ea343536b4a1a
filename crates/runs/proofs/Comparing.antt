-- Equal bytes, compared and counted. Assumes nothing.
use Rattle.std.proofs.Common.{◌≡◌, ◌≢◌, ℕ, ◌+◌, ◌-◌, ◌<◌, ◌≤◌, Bool, true, false, cond, ◌&&◌, List, [], ◌∷◌, ◌++◌, length, get_or, take, drop, replicate, fold, refl, sym, ap, ◌∙◌, arith}
use Prim.Native.Nat.{zero, suc}
use mathlib.Core.Bool.{false≢true}
use borrow.Author.Tests.{eqb-true, eq-eqb}
use Rattle.std.specs.List.{prefix_len}
use Rattle.std.proofs.lemmas.List.{drop-drop, length-take, length-drop, get_or-take, get_or-drop}
use Rattle.std.proofs.lemmas.List.Sums.{prefix_len-le-length, prefix_len_stops}
use lib.Dec.{eqb}
use Rattle.runs.specs.Equal.{Same}

-- n bytes x stand from index i on
front-same : (xs : List ℕ) (i n x : ℕ) → i + n ≤ length xs → drop i xs ≡ replicate n x ++ drop n (drop i xs) → Same xs i (i + n) x
front-same xs i n x h e =
    let size : i + n - i ≡ n = omega arith in
    record { begun = omega arith; within = h; same = e ∙ rw (size, drop-drop n i xs) }

-- Compared

folded-false : (x : ℕ) (ys : List ℕ) → fold (λ same y. same && eqb y x) false ys ≡ false
folded-false x [] = refl
folded-false x (y ∷ ys) = folded-false x ys

folded-front : (x n : ℕ) (zs : List ℕ) → n ≤ length zs → fold (λ same y. same && eqb y x) true (take n zs) ≡ true → zs ≡ replicate n x ++ drop n zs
folded-front x zero zs h e = refl
folded-front x (suc n) [] h e = absurd (omega arith)
folded-front x (suc n) (z ∷ zs) h e = step (eqb z x) refl (folded-front x n zs (omega arith)) e
  where
    step : (b : Bool) → eqb z x ≡ b → (fold (λ same y. same && eqb y x) true (take n zs) ≡ true → zs ≡ replicate n x ++ drop n zs) →
        fold (λ same y. same && eqb y x) b (take n zs) ≡ true → z ∷ zs ≡ x ∷ (replicate n x ++ drop n zs)
    step true q more t = rw (eqb-true z x q) (ap (λ ws. x ∷ ws) (more t))
    step false q more t = absurd (false≢true (sym (folded-false x (take n zs)) ∙ t))

pub folded-same : (xs : List ℕ) (i e x : ℕ) → i ≤ e → e ≤ length xs → fold (λ same y. same && eqb y x) true (take (e - i) (drop i xs)) ≡ true → Same xs i e x
folded-same xs i e x h l t =
    let size : i + (e - i) ≡ e = omega arith in
    rw size at (front-same xs i (e - i) x (omega arith) (folded-front x (e - i) (drop i xs) (rw (length-drop i xs) (omega arith)) t))

-- Counted

counted-front : (x n : ℕ) (zs : List ℕ) → zs ≡ replicate (prefix_len (λ y. eqb y x) (take n zs)) x ++ drop (prefix_len (λ y. eqb y x) (take n zs)) zs
counted-front x zero zs = refl
counted-front x (suc n) [] = refl
counted-front x (suc n) (z ∷ zs) = step (eqb z x) refl (counted-front x n zs)
  where
    k : ℕ
    k = prefix_len (λ y. eqb y x) (take n zs)

    step : (b : Bool) → eqb z x ≡ b → zs ≡ replicate k x ++ drop k zs → z ∷ zs ≡ replicate (cond b (1 + k) 0) x ++ drop (cond b (1 + k) 0) (z ∷ zs)
    step true q more =
        let next : 1 + k ≡ suc k = omega arith in
        rw (eqb-true z x q, next) (ap (λ ws. x ∷ ws) more)
    step false q more = refl

-- of the bytes from index i to before index e, those before index j are x, and the next is another
pub record Skips (xs : List ℕ) (i e x j : ℕ) : Type 0 where
  pub skipped : Same xs i j x
  pub before-end : j ≤ e
  pub ends : j < e → get_or xs j 0 ≢ x

pub counted : (xs : List ℕ) (i e x k : ℕ) → k ≡ prefix_len (λ y. eqb y x) (take (e - i) (drop i xs)) → i ≤ e → e ≤ length xs → Skips xs i e x (i + k)
counted xs i e x k q h l =
    let size : length (take (e - i) (drop i xs)) ≡ e - i = rw (length-take (e - i) (drop i xs), length-drop i xs) (omega arith) in
    let few : k ≤ e - i = rw q (rw size at (prefix_len-le-length (λ y. eqb y x) (take (e - i) (drop i xs)))) in
    record {
      skipped = front-same xs i k x (omega arith) (rw q (counted-front x (e - i) (drop i xs)));
      before-end = omega arith;
      ends =
          λ b s.
          let here : get_or (take (e - i) (drop i xs)) k 0 ≡ x = rw (get_or-take (e - i) (drop i xs) k 0 (omega arith), get_or-drop i xs k 0) s in
          let stops = prefix_len_stops (λ y. eqb y x) (take (e - i) (drop i xs)) 0 (rw (size, ← q) (omega arith)) in
          false≢true (sym (rw (← q) at stops) ∙ eq-eqb _ _ here);
    }
