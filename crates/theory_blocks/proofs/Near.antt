-- Refusal 8: some block has a node in a place's row, one or two columns away, exactly if one of four nodes of the row is bad; and exactly if
-- the place is on a side of a ring. Assumes nothing.
use Rattle.std.proofs.Common.{◌≡◌, sym, ◌∙◌, ◌↔◌, inl, inr, Bool, true, false, List, ℕ, pred, ◌+◌, ◌≤◌, min, max, arith}
use Rattle.std.proofs.lemmas.Bool.{cases_Bool, or_cases}
use Rattle.mesh.specs.Nodes.{ahead, near_in_row}
use Rattle.mesh.specs.Blocks.{Block, within, some_block}
use Rattle.mesh.proofs.Bools.{true-false, bool-ext}
use Rattle.theory_blocks.specs.Blocks.{Within}
use Rattle.theory_blocks.specs.Obstacles.{Obstacles, OnSomeSide}
use Rattle.theory_blocks.proofs.Rules.{beside, Nearby, beside-nearby, nearby-second, nearby-in}
use Rattle.theory_blocks.proofs.Rings.{reaches-told, reaches-true, some_block-told, some_block-true}

-- told by the node
module _ (B : ℕ → ℕ → Bool) (r c : ℕ) where
  near-told : near_in_row B r c ≡ true → Nearby 2 (B r) c
  unfolding near_in_row ahead
  near-told e =
      elim (or_cases (beside (B r) 1 c) (beside (B r) 2 c) e) [
        | inl h ↦ beside-nearby (B r) c 1 2 (omega arith) (omega arith) h
        | inr h ↦ beside-nearby (B r) c 2 2 (omega arith) (omega arith) h
      ]

  near-true : Nearby 2 (B r) c → near_in_row B r c ≡ true
  unfolding near_in_row ahead
  near-true = nearby-second (B r) c

module _ {columns rows : ℕ} {B : ℕ → ℕ → Bool} {bs : List Block} (O : Obstacles columns rows B bs) (r c : ℕ) where
  abbrev some_near : Bool
  some_near = some_block (λ b. near_in_row (within b) r c) bs

  -- refusal 8 in code: a look at four nodes
  pub near-blocks : some_near ≡ near_in_row B r c
  near-blocks =
      bool-ext _ _
      (λ e.
      let k = some_block-told _ bs e in
      let b = k.block in
      near-true B r c
      (nearby-in (within b r) (B r) (λ y h. (O.walled b k.listed).inside r y (reaches-told 0 0 b r y h)) (near-told (within b) r c k.passes)))
      (λ e.
      let n = near-told B r c e in
      let h = O.in-block r n.place n.here in
      let here = reaches-true 0 0 h.block r n.place h.within in
      some_block-true _ bs h.block h.listed
      (near-true (within h.block) r c (record { place = n.place; here = here; other = n.other; low = n.low; high = n.high })))

  module _ (free : B r c ≡ false) where
    -- what a course asks of its destination
    pub row-is-clear : some_near ≡ false → (y : ℕ) → c ≤ y + 2 → y ≤ c + 2 → B r y ≡ false
    row-is-clear far y l h =
        elim (cases_Bool (B r y)) [
          | inr f ↦ f
          | inl b ↦
              let other : y ≡ c → ⊥ = λ s. true-false b (rw s free) in
              true-false (near-true B r c (record { place = y; here = b; other = other; low = l; high = h })) (sym near-blocks ∙ far)
        ]

    near-side : some_near ≡ true → OnSomeSide bs r c
    near-side e =
        let k = some_block-told _ bs e in
        let n = near-told (within k.block) r c k.passes in
        let i = reaches-told 0 0 k.block r n.place n.here in
        let outside : Within k.block r c → ⊥ = λ u. true-false ((O.walled k.block k.listed).inside r c u) free in
        record {
          block = k.block;
          listed = k.listed;
          side = record { on-ring = record { near = omega arith; outside = outside }; in_row = omega arith };
        }

    side-near : OnSomeSide bs r c → some_near ≡ true
    side-near k =
        let b = k.block in
        let s = k.side in
        let o = s.on-ring.near in
        let m = O.walled b k.listed in
        let y = min (max c b.column) (pred (b.width + b.column)) in
        let here = reaches-true 0 0 b r y (omega arith) in
        let other : y ≡ c → ⊥ = λ e. s.on-ring.outside (omega arith) in
        some_block-true _ bs b k.listed
        (near-true (within b) r c (record { place = y; here = here; other = other; low = omega arith; high = omega arith }))

    pub near-sides : some_near ≡ true ↔ OnSomeSide bs r c
    near-sides = (near-side, side-near)
