-- Grow each block by the row south of it and the two columns west of it: the grown blocks share no place and leave the mesh's last row and last
-- two columns free, and no block's detour exceeds the places of the grown one. Assumes nothing.
use Rattle.std.proofs.Common.{◌≡◌, refl, Bool, true, false, List, [], ◌∷◌, ℕ, zero, suc, ◌+◌, ◌-◌, ◌*◌, ◌≤◌, ◌<◌, arith}
use Rattle.std.proofs.Math.Decide.{dec_le}
use mathlib.Core.List.Memᴰ
use Rattle.mesh.specs.Blocks.{Block, reaches}
use Rattle.mesh.specs.Walk.{detours}
use Rattle.theory_blocks.specs.Blocks.{Within, Fits, Apart, by-east, by-west, by-north, by-south}
use Rattle.theory_blocks.specs.Obstacles.{Listed, Pairs, more}
use Rattle.theory_blocks.proofs.Rings.{reaches-told, reaches-true, reaches-false}

-- b with the row south of it and the two columns west of it
unfoldable pub grown : Block → Block
grown b = record { row = b.row - 1; column = b.column - 2; height = b.height + 1; width = b.width + 2 }

-- the places of all grown blocks
pub area : List Block → ℕ
area [] = 0
area (b ∷ bs) = (grown b).height * (grown b).width + area bs

-- a and b, grown, share no place
pub record Disjoint (a b : Block) : Type 0 where
  pub disjoint : (x y : ℕ) → Within (grown a) x y → Within (grown b) x y → ⊥

pub apart-disjoint : {columns rows : ℕ} {a b : Block} → Fits columns rows a → Fits columns rows b → Apart a b → Disjoint a b
unfolding grown
apart-disjoint p q (by-east h) = record { disjoint = λ x y i j. omega arith }
apart-disjoint p q (by-west h) = record { disjoint = λ x y i j. omega arith }
apart-disjoint p q (by-north h) = record { disjoint = λ x y i j. omega arith }
apart-disjoint p q (by-south h) = record { disjoint = λ x y i j. omega arith }

-- f 0 + .. + f (n - 1)
pub sum : ℕ → (ℕ → ℕ) → ℕ
sum zero f = 0
sum (suc n) f = sum n f + f n

sum-at-least : (v a : ℕ) (f : ℕ → ℕ) (n k : ℕ) → k + a ≤ n → ((i : ℕ) → a ≤ i → i < k + a → v ≤ f i) → k * v ≤ sum n f
unfolding sum
sum-at-least v a f n zero h m = omega arith
sum-at-least v a f zero (suc k) h m = absurd (omega arith)
sum-at-least v a f (suc n) (suc k) h m =
    elim (dec_le (suc k + a) n) [
      | yes q ↦ omega (arith, sum-at-least v a f n (suc k) q m)
      | no q ↦
          let i = sum-at-least v a f n k (omega arith) (λ i p q. m i p (omega arith)) in
          let j = m n (omega arith) (omega arith) in
          omega arith
    ]

pub sum-at-most : (v : ℕ) (f : ℕ → ℕ) (n : ℕ) → ((i : ℕ) → f i ≤ v) → sum n f ≤ n * v
unfolding sum
sum-at-most v f zero m = omega arith
sum-at-most v f (suc n) m = omega (arith, sum-at-most v f n m, m n)

sum-split : (f g h : ℕ → ℕ) (n : ℕ) → ((i : ℕ) → f i + g i ≤ h i) → sum n f + sum n g ≤ sum n h
unfolding sum
sum-split f g h zero m = omega arith
sum-split f g h (suc n) m = omega (arith, sum-split f g h n m, m n)

one : Bool → ℕ
one true = 1
one false = 0

-- what is taken off where there is room
one-room : (t : Bool) (n : ℕ) → (t ≡ true → 1 ≤ n) → n - one t + one t ≤ n
unfolding one
one-room true n h = omega (arith, h refl)
one-room false n h = omega arith

module _ (b : Block) (x y : ℕ) where
  -- 1 at the grown block's places
  share : ℕ
  share = one (reaches 0 0 (grown b) x y)

  share-one : Within (grown b) x y → 1 ≤ share
  unfolding share one
  share-one i = rw (reaches-true 0 0 (grown b) x y i) (omega arith)

  share-none : (Within (grown b) x y → ⊥) → share ≡ 0
  unfolding share one
  share-none h = rw (reaches-false 0 0 (grown b) x y h)

-- g x y tells how many grown blocks may hold (x, y)
pub record Room (columns rows : ℕ) (g : ℕ → ℕ → ℕ) (b : Block) : Type 0 where
  pub high : (grown b).height + (grown b).row ≤ rows
  pub wide : (grown b).width + (grown b).column ≤ columns
  pub room : (x y : ℕ) → Within (grown b) x y → 1 ≤ g x y

module _ (columns rows : ℕ) where
  pub area-fits : (bs : List Block) → Pairs Disjoint bs → (g : ℕ → ℕ → ℕ) → ((b : Block) → Listed b bs → Room columns rows g b) →
      area bs ≤ sum rows (λ x. sum columns (g x))
  unfolding area share
  area-fits [] p g m = omega arith
  area-fits (b ∷ bs) (more h p) g m =
      let r = m b (Memᴰ.head refl) in
      let rest =
      area-fits bs p (λ x y. g x y - share b x y)
      (λ a u.
      let s = m a (Memᴰ.tail u) in
      record {
        high = s.high;
        wide = s.wide;
        room = λ x y k. rw (share-none b x y (λ j. (h a u).disjoint x y j k)) (omega (arith, s.room x y k));
      }) in
      let first =
      sum-at-least (grown b).width (grown b).row (λ x. sum columns (share b x)) rows (grown b).height r.high
      (λ x p q.
      let e = sum-at-least 1 (grown b).column (share b x) columns (grown b).width r.wide (λ y u v. share-one b x y (omega arith)) in
      omega arith) in
      let all =
      sum-split (λ x. sum columns (λ y. g x y - share b x y)) (λ x. sum columns (share b x)) (λ x. sum columns (g x)) rows
      (λ x.
      sum-split (λ y. g x y - share b x y) (share b x) (g x) columns
      (λ y. one-room (reaches 0 0 (grown b) x y) (g x y) (λ t. r.room x y (reaches-told 0 0 (grown b) x y t)))) in
      omega arith

pub detours-area : (bs : List Block) → ((b : Block) → Listed b bs → 0 < b.height) → detours bs ≤ area bs
unfolding detours area grown
detours-area [] m = omega arith
detours-area (b ∷ bs) m =
    let i = detours-area bs (λ a u. m a (Memᴰ.tail u)) in
    omega (arith, detour-area b.height b.width (m b (Memᴰ.head refl)))
  where
    detour-area : (h w : ℕ) → 0 < h → 2 * (w + h + 1) ≤ (h + 1) * (w + 2)
    detour-area zero w p = absurd (omega arith)
    detour-area (suc h) w p = omega arith
