-- Digits, and the room that a number of at most three of them takes. Assumes nothing.
use Rattle.std.proofs.Common.{◌≡◌, ℕ, zero, suc, ◌+◌, ◌*◌, ◌^◌, ◌≤◌, ◌<◌, List, [], ◌∷◌, None, Some, refl, ap, arith}
use Rattle.std.proofs.lemmas.Grind.{common_steps}
use Rattle.std.proofs.Math.Nat.{one-le-pow, pow-succ', mul-le-mul_left, mul-le-mul_right}
use Rattle.sheet_words.specs.Words.{is_digit, more, number}
use Rattle.sheet_words.specs.Reading.{digit}
use Rattle.sheet_words.proofs.Conds.{none-cond, some-cond}

-- up to k digits more
pub more-none : (k n : ℕ) (xs : List ℕ) → digit xs ≡ None → Some (n, xs) ≡ more k n xs
unfolding more digit
more-none zero n xs e = refl
more-none (suc k) n [] e = refl
more-none (suc k) n (x ∷ xs) e = rw (none-cond (is_digit x) _ e)

pub more-digit : (k j n d : ℕ) (xs ys : List ℕ) → k ≡ suc j → digit xs ≡ Some (d, ys) → more j (10 * n + d) ys ≡ more k n xs
unfolding more digit
more-digit k j n d (x ∷ xs) ys h e = let p = some-cond (is_digit x) _ _ e in rw (h, p.0, ← ap (λ q. q.0) p.1, ← ap (λ q. q.1) p.1)
more-digit k j n d [] ys h e = grind (arith, common_steps)

-- room for k digits more after a number n below 1000
pub room_small : (k n : ℕ) → (n + 1) * 10 ^ k ≤ 1000 → n < 1000
room_small k n h = let p : (n + 1) * 1 ≤ (n + 1) * 10 ^ k = mul-le-mul_left (n + 1) (one-le-pow k 10 (omega arith)) in omega arith

pub room-more : (k j n d : ℕ) → k ≡ suc j → (n + 1) * 10 ^ k ≤ 1000 → d < 10 → (10 * n + d + 1) * 10 ^ j ≤ 1000
room-more k j n d e h q =
    let p : (10 * n + d + 1) * 10 ^ j ≤ (10 * n + 10) * 10 ^ j = mul-le-mul_right (10 ^ j) (omega arith) in
    let g = rw (e, pow-succ') at h in
    omega arith

-- a digit, and up to two more
pub number-none : (xs : List ℕ) → digit xs ≡ None → None ≡ number xs
unfolding number digit
number-none [] e = refl
number-none (x ∷ xs) e = rw (none-cond (is_digit x) _ e)

pub number-some : (d : ℕ) (xs ys : List ℕ) → digit xs ≡ Some (d, ys) → more 2 d ys ≡ number xs
unfolding number digit
number-some d (x ∷ xs) ys e = let p = some-cond (is_digit x) _ _ e in rw (p.0, ← ap (λ q. q.0) p.1, ← ap (λ q. q.1) p.1)
number-some d [] ys e = grind (arith, common_steps)
