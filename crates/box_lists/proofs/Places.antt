-- The boxes from some place of a list on, by their places. Assumes nothing.
use mathlib.Core.Path.{◌≡◌, refl, ap}
use mathlib.Core.Bool.{false}
use mathlib.Core.List.{List, [], ◌∷◌, ◌++◌, Memᴰ}
use Prim.Native.Nat.{ℕ, zero, suc, ◌+◌, ◌≤◌, ◌<◌}
use native.Mathlib.Nat.{zero-add}
use native.Mathlib.Decide.{dec_lt}
use native.Mathlib.Omega.{arith}
use lib.ListN.{length}
use Rattle.theory_boxes.specs.Boxes.{Box, close, close_to, some_close}
use Rattle.box_lists.specs.Lists.{box_at, boxes_from}

pub length-boxes : (xs : List ℕ) (i n : ℕ) → length (boxes_from xs i n) ≡ n
unfolding boxes_from
length-boxes xs i zero = refl
length-boxes xs i (suc n) = ap suc (length-boxes xs (suc i) n)

pub stands-mem : (xs : List ℕ) (i n j : ℕ) → i ≤ j → j < n + i → Memᴰ (box_at xs j) (boxes_from xs i n)
unfolding boxes_from
stands-mem xs i zero j p q = absurd (omega arith)
stands-mem xs i (suc n) j p q =
    elim (dec_lt i j) [
      | yes h ↦ Memᴰ.tail (stands-mem xs (suc i) n j h (omega arith))
      | no h ↦ let e : j ≡ i = omega arith in rw e (Memᴰ.head refl)
    ]

-- the same boxes, place by place
pub boxes-same : (xs ys : List ℕ) (i j n : ℕ) → ((k : ℕ) → k < n → box_at xs (k + i) ≡ box_at ys (k + j)) → boxes_from xs i n ≡ boxes_from ys j n
unfolding boxes_from
boxes-same xs ys i j zero f = refl
boxes-same xs ys i j (suc n) f =
    let here : box_at xs i ≡ box_at ys j = rw (zero-add i, zero-add j) at (f 0 (omega arith)) in
    rw (here, boxes-same xs ys (suc i) (suc j) n (λ k h. next k (f (suc k) (omega arith))))
  where
    next : (k : ℕ) → box_at xs (suc k + i) ≡ box_at ys (suc k + j) → box_at xs (k + suc i) ≡ box_at ys (k + suc j)
    next k e =
        let p : k + suc i ≡ suc k + i = omega arith in
        let q : k + suc j ≡ suc k + j = omega arith in
        rw (p, q) e

-- one box more at the end
pub boxes-more : (xs : List ℕ) (i n : ℕ) → boxes_from xs i (n + 1) ≡ boxes_from xs i n ++ (box_at xs (n + i) ∷ [])
unfolding boxes_from
boxes-more xs i zero = rw zero-add
boxes-more xs i (suc n) =
    let e : suc n + 1 ≡ suc (n + 1) = omega arith in
    let d : suc n + i ≡ n + suc i = omega arith in
    rw (e, d) (ap (λ l. box_at xs i ∷ l) (boxes-more xs (suc i) n))

far-to : (xs : List ℕ) (a : Box) (i n : ℕ) → ((j : ℕ) → i ≤ j → j < n + i → close a (box_at xs j) ≡ false) →
    close_to a (boxes_from xs i n) ≡ false
unfolding boxes_from close_to
far-to xs a i zero f = refl
far-to xs a i (suc n) f = rw (f i (omega arith) (omega arith)) (far-to xs a (suc i) n (λ j p q. f j (omega arith) (omega arith)))

-- no two of them are close
pub no-two-close : (xs : List ℕ) (i n : ℕ) → ((j k : ℕ) → j < k → k < n + i → close (box_at xs j) (box_at xs k) ≡ false) →
    some_close (boxes_from xs i n) ≡ false
unfolding boxes_from some_close
no-two-close xs i zero f = refl
no-two-close xs i (suc n) f =
    rw (far-to xs (box_at xs i) (suc i) n (λ j p q. f i j p (omega arith))) (no-two-close xs (suc i) n (λ j k p q. f j k p (omega arith)))
