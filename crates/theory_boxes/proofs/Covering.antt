-- The nodes of boxes that are far from each other are a marking that no rule adds to. Assumes nothing.
use Rattle.std.proofs.Common.{◌≡◌, refl, inl, inr, Bool, true, false, ◌&&◌, ◌||◌, List, [], ◌∷◌, ℕ, suc, ◌+◌, ◌≤◌, min, max, arith, leb-true, le-leb, leb}
use Rattle.std.proofs.lemmas.Bool.{and_parts, or_cases}
use Rattle.std.proofs.Math.Bool.{or-true}
use mathlib.Core.List.Memᴰ
use mathlib.Core.List.{Memᴰ}
use Rattle.mesh.proofs.Bools.{true-false}
use Rattle.theory_blocks.specs.Marking.{Closed}
use Rattle.theory_blocks.specs.Obstacles.{Pairs}
use Rattle.theory_blocks.proofs.Rules.{Reason, between-two, crossed, reasons-closed}
use Rattle.theory_boxes.specs.Boxes.{Box, In}
use Rattle.theory_boxes.proofs.Close.{far-told}
use Rattle.theory_boxes.proofs.Far.{Far, far-any}

-- (r, c) is a node of b
in_box : Box → ℕ → ℕ → Bool
in_box b r c = (leb b.low-row r && leb r b.high-row) && (leb b.low_column c && leb c b.high-column)

-- (r, c) is a node of some box
pub covers : List Box → ℕ → ℕ → Bool
covers [] r c = false
covers (b ∷ bs) r c = in_box b r c || covers bs r c

pub record Covered (l : List Box) (r c : ℕ) : Type 0 where
  pub box : Box
  pub member : Memᴰ box l
  pub inside : In box r c

module _ (r c : ℕ) where
  in_told : (b : Box) → in_box b r c ≡ true → In b r c
  unfolding in_box
  in_told b e =
      let (p, q) = and_parts (leb b.low-row r && leb r b.high-row) _ e in
      let (s, n) = and_parts _ _ p in
      let (w, e) = and_parts _ _ q in
      record { south = leb-true _ _ s; north = leb-true _ _ n; west = leb-true _ _ w; east = leb-true _ _ e }

  in-true : (b : Box) → In b r c → in_box b r c ≡ true
  unfolding in_box
  in-true b k = rw (le-leb _ _ k.south, le-leb _ _ k.north, le-leb _ _ k.west, le-leb _ _ k.east)

  pub covers-told : (l : List Box) → covers l r c ≡ true → Covered l r c
  unfolding covers
  covers-told [] e = true-false e refl
  covers-told (b ∷ l) e =
      elim (or_cases (in_box b r c) (covers l r c) e) [
        | inl h ↦ record { box = b; member = Memᴰ.head refl; inside = in_told b h }
        | inr h ↦
            let k = covers-told l h in
            record { box = k.box; member = Memᴰ.tail k.member; inside = k.inside }
      ]

  pub covers-true : (l : List Box) (b : Box) → Memᴰ b l → In b r c → covers l r c ≡ true
  unfolding covers
  covers-true [] b m i = absurd (Memᴰ.not-nil m)
  covers-true (a ∷ l) b m i =
      elim (Memᴰ.cases_cons m) [
        | inl e ↦ simp (rw e at (in-true b i))
        | inr n ↦ simp (covers-true l b n i, or-true)
      ]

module _ {l : List Box} (p : Pairs Far l) where
  -- a node of the boxes that is at most 1 row and 2 columns from a box is its own: that of another would be too close
  pub holds-near : (b : Box) → Memᴰ b l → {x y : ℕ} → Covered l x y → b.low-row ≤ x + 1 → x ≤ b.high-row + 1 →
      b.low_column ≤ y + 2 → y ≤ b.high-column + 2 → In b x y
  holds-near b m {x} {y} v s n w e =
      elim (far-any p b v.box m v.member) [
        | inl q ↦ rw q v.inside
        | inr f ↦ absurd (far-told b v.box f.far (omega (arith, v.inside)))
      ]

  -- so a node between two of theirs that are so near each other is theirs
  between-covered : (r c x y x' y' : ℕ) → covers l x y ≡ true → covers l x' y' ≡ true →
      (x ≤ x' + 1) × (x' ≤ x + 1) × (y ≤ y' + 2) × (y' ≤ y + 2) →
      (min x x' ≤ r) × (r ≤ max x x') × (min y y' ≤ c) × (c ≤ max y y') → covers l r c ≡ true
  between-covered r c x y x' y' one two near spanned =
      let u = covers-told x y l one in
      let i = u.inside in
      let j = holds-near u.box u.member (covers-told x' y' l two) (omega arith) (omega arith) (omega arith) (omega arith) in
      covers-true r c l u.box u.member (omega arith)

  covers-reason : (r c : ℕ) → Reason (covers l) r c → covers l r c ≡ true
  covers-reason r c (between-two y q w e) = between-covered r c r y r (suc c) w e (omega arith) (omega arith)
  covers-reason r c (crossed k h) = between-covered r c k.place c r h.place k.here h.here (omega arith) (omega arith)

  pub covers-closed : (columns rows : ℕ) → Closed columns rows (covers l)
  covers-closed columns rows = reasons-closed columns rows (covers l) covers-reason
