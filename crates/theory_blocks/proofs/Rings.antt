-- A block's nodes, its ring and the blocks of a list, told by Bools and by records: each from the other. Assumes nothing.
use Rattle.std.proofs.Common.{◌≡◌, refl, inl, inr, Bool, true, false, List, [], ◌∷◌, ℕ, arith, leb-true, ltb-true, le-leb, lt-ltb}
use Rattle.std.proofs.lemmas.Bool.{cases_Bool, and_parts, or_cases, not-true}
use Rattle.std.proofs.Math.Bool.{or-true}
use mathlib.Core.List.Memᴰ
use Rattle.mesh.specs.Blocks.{Block, reaches, on_ring, some_block}
use Rattle.mesh.proofs.Bools.{true-false}
use Rattle.theory_blocks.specs.Blocks.{Reaches, OnRing}
use Rattle.theory_blocks.specs.Obstacles.{Listed}

module _ (i j : ℕ) (b : Block) (r c : ℕ) where
  pub reaches-told : reaches i j b r c ≡ true → Reaches i j b r c
  unfolding reaches
  reaches-told e =
      let (p, q) = and_parts _ _ e in
      let (s, n) = and_parts _ _ p in
      let (w, e) = and_parts _ _ q in
      record { south = leb-true _ _ s; north = ltb-true _ _ n; west = leb-true _ _ w; east = ltb-true _ _ e }

  pub reaches-true : Reaches i j b r c → reaches i j b r c ≡ true
  unfolding reaches
  reaches-true k = rw (le-leb _ _ k.south, lt-ltb _ _ k.north, le-leb _ _ k.west, lt-ltb _ _ k.east)

  pub reaches-not : reaches i j b r c ≡ false → Reaches i j b r c → ⊥
  reaches-not e k = true-false (reaches-true k) e

  pub reaches-false : (Reaches i j b r c → ⊥) → reaches i j b r c ≡ false
  reaches-false h = elim (cases_Bool (reaches i j b r c)) [ inl e ↦ absurd (h (reaches-told e)) | inr e ↦ e ]

module _ (b : Block) (r c : ℕ) where
  pub on_ring-told : on_ring b r c ≡ true → OnRing b r c
  unfolding on_ring
  on_ring-told e =
      let (p, q) = and_parts _ _ e in
      let n = reaches-told 1 2 b r c p in
      record { near = omega arith; outside = reaches-not 0 0 b r c (not-true _ q) }

  pub on_ring-true : OnRing b r c → on_ring b r c ≡ true
  unfolding on_ring
  on_ring-true k = rw (reaches-true 1 2 b r c (omega arith), reaches-false 0 0 b r c k.outside)

-- a listed block passes a test
pub record SomeListed (t : Block → Bool) (bs : List Block) : Type 0 where
  pub block : Block
  pub listed : Listed block bs
  pub passes : t block ≡ true

module _ (t : Block → Bool) where
  pub some_block-told : (bs : List Block) → some_block t bs ≡ true → SomeListed t bs
  unfolding some_block
  some_block-told [] e = true-false e refl
  some_block-told (b ∷ bs) e =
      elim (or_cases (t b) (some_block t bs) e) [
        | inl h ↦ record { block = b; listed = Memᴰ.head refl; passes = h }
        | inr h ↦
            let k = some_block-told bs h in
            record { block = k.block; listed = Memᴰ.tail k.listed; passes = k.passes }
      ]

  pub some_block-true : (bs : List Block) (b : Block) → Listed b bs → t b ≡ true → some_block t bs ≡ true
  unfolding some_block
  some_block-true [] b m p = absurd (Memᴰ.not-nil m)
  some_block-true (a ∷ bs) b m p =
      elim (Memᴰ.cases_cons m) [ inl e ↦ simp (rw e at p) | inr n ↦ simp (some_block-true bs b n p, or-true) ]
