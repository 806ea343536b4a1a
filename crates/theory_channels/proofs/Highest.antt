-- A member of a list whose number no other member's exceeds. Assumes nothing.
use Rattle.std.proofs.Common.{refl, List, [], ◌∷◌, ℕ, ◌≤◌, ◌<◌, arith}
use Rattle.std.proofs.Math.Decide.{dec_lt}
use mathlib.Core.List.Memᴰ
use mathlib.Core.List.{Memᴰ}

module _ {A : Type 0} (f : A → ℕ) where
  pub record Highest (xs : List A) : Type 0 where
    pub top : A
    pub member : Memᴰ top xs
    pub highest : (x : A) → Memᴰ x xs → f x ≤ f top

  -- what bounds the first and the others bounds all
  bounds : (n : ℕ) (x : A) (xs : List A) → f x ≤ n → ((y : A) → Memᴰ y xs → f y ≤ n) → (y : A) → Memᴰ y (x ∷ xs) → f y ≤ n
  bounds n x xs i rest y (Memᴰ.head e) = rw e i
  bounds n x xs i rest y (Memᴰ.tail m) = rest y m

  higher : (x : A) (xs : List A) (h : Highest xs) → Dec (f h.top < f x) → Highest (x ∷ xs)
  higher x xs h (yes i) =
      record {
        top = x;
        member = Memᴰ.head refl;
        highest = bounds (f x) x xs (omega arith) (λ y m. omega (arith, h.highest y m));
      }
  higher x xs h (no i) =
      record {
        top = h.top;
        member = Memᴰ.tail h.member;
        highest = bounds (f h.top) x xs (omega arith) h.highest;
      }

  pub highest-of : (x : A) (xs : List A) → Highest (x ∷ xs)
  highest-of x [] =
      record {
        top = x;
        member = Memᴰ.head refl;
        highest = bounds (f x) x [] (omega arith) (λ y m. absurd (Memᴰ.not-nil m));
      }
  highest-of x (y ∷ ys) = let h = highest-of y ys in higher x (y ∷ ys) h (dec_lt (f h.top) (f x))
