-- Connected sets of bad nodes: a rectangle with a free ring is a block, and blocks that share a node are the same. Assumes nothing.
use Rattle.std.proofs.Common.{◌≡◌, ◌↔◌, inl, inr, Bool, true, List, ℕ, suc, ◌≤◌, arith}
use Rattle.std.proofs.lemmas.Bool.{cases_Bool}
use Rattle.std.proofs.Math.Decide.{le_ind}
use Rattle.mesh.specs.Blocks.{Block, reaches}
use Rattle.mesh.proofs.Bools.{true-false}
use Rattle.theory_blocks.specs.Blocks.{Neighbour, north, south, east, west, Joined, here, go, Unjoined, IsBlock, Within, Apart}
use Rattle.theory_blocks.specs.Obstacles.{Listed, Walled, InBlock, IsListed, Pairs}
use Rattle.theory_blocks.proofs.Rings.{reaches-told, reaches-not}
use Rattle.theory_blocks.proofs.Apart.{apart-nodes, pairs-map}

-- to and fro along a line that lies in the set from c to y
module _ (J S : ℕ → Type 0) (up : (y : ℕ) → J y → S (suc y) → J (suc y)) (down : (y : ℕ) → J (suc y) → S y → J y) where
  slide : (c y : ℕ) → c ≤ y → ((z : ℕ) → c ≤ z → z ≤ y → S z) → J c ↔ J y
  slide c =
      le_ind (λ y. ((z : ℕ) → c ≤ z → z ≤ y → S z) → J c ↔ J y)
      (λ all. (λ j. j, λ j. j))
      (λ y h ih all.
      let i = ih (λ z p q. all z p (omega arith)) in
      (λ j. up y (i.0 j) (all (suc y) (omega arith) (omega arith)), λ j. i.1 (down y j (all y h (omega arith)))))

-- A rectangle is connected: from any node along its row to the first column, along that to another row, and along that.
module _ (b : Block) where
  -- between a node and the corner
  corner-slide : (r c x y : ℕ) → Within b x y → Joined (Within b) r c b.row b.column ↔ Joined (Within b) r c x y
  corner-slide r c x y i =
      let up =
      slide (λ z. Joined (Within b) r c z b.column) (λ z. Within b z b.column) (λ z j e. go j north e) (λ z j e. go j south e) b.row x (omega arith)
      (λ z p q. omega arith) in
      let along =
      slide (λ z. Joined (Within b) r c x z) (Within b x) (λ z j e. go j east e) (λ z j e. go j west e) b.column y (omega arith)
      (λ z p q. omega arith) in
      (λ j. along.0 (up.0 j), λ j. up.1 (along.1 j))

  within-joined : (r c x y : ℕ) → Within b r c → Within b x y → Joined (Within b) r c x y
  within-joined r c x y i o = (corner-slide r c x y o).0 ((corner-slide r c r c i).1 (here i))

neighbour-close : {r c x y : ℕ} → Neighbour r c x y → (x ≤ suc r) × (r ≤ suc x) × (y ≤ suc c) × (c ≤ suc y)
neighbour-close north = omega arith
neighbour-close south = omega arith
neighbour-close east = omega arith
neighbour-close west = omega arith

module _ {B : ℕ → ℕ → Bool} where
  -- a bad neighbour of a node of the rectangle is in the rectangle, since its ring is free
  walled-keeps : {b : Block} → Walled B b → {r c x y : ℕ} → Within b r c → Neighbour r c x y → B x y ≡ true → Within b x y
  walled-keeps {b} k {r} {c} {x} {y} i n e =
      elim (cases_Bool (reaches 0 0 b x y)) [
        | inl h ↦ reaches-told 0 0 b x y h
        | inr h ↦
            let d = neighbour-close n in
            true-false e
            (k.ring x y (record { near = omega arith; outside = reaches-not 0 0 b x y h }))
      ]

  pub walled-block : {b : Block} → Walled B b → IsBlock B (Within b)
  walled-block {b} k =
      record {
        row = b.row;
        column = b.column;
        member = omega arith;
        are-bad = k.inside;
        connected = within-joined b;
        no-further = walled-keeps k;
      }

  -- what is joined to a node of a block, through bad nodes, is in the block
  joined-stays : {S T : ℕ → ℕ → Type 0} → ((x y : ℕ) → S x y → B x y ≡ true) → IsBlock B T → {r c x y : ℕ} → T r c → Joined S r c x y → T x y
  joined-stays bad t i (here s) = i
  joined-stays bad t i (go j n s) = t.no-further (joined-stays bad t i j) n (bad _ _ s)

  block_within : {S T : ℕ → ℕ → Type 0} → IsBlock B S → IsBlock B T → {r c : ℕ} → S r c → T r c → (x y : ℕ) → S x y → T x y
  block_within s t {r} {c} i j x y k = joined-stays s.are-bad t j (s.connected r c x y i k)

module _ {B : ℕ → ℕ → Bool} {bs : List Block} (walled : (b : Block) → Listed b bs → Walled B b) where
  pub block_listed : ((x y : ℕ) → B x y ≡ true → InBlock bs x y) → {Set : ℕ → ℕ → Type 0} → IsBlock B Set → IsListed bs Set
  block_listed in_block s =
      let h = in_block s.row s.column (s.are-bad _ _ s.member) in
      let b = walled-block (walled h.block h.listed) in
      record {
        block = h.block;
        listed = h.listed;
        nodes = λ x y. (block_within s b s.member h.within x y, block_within b s h.within s.member x y);
      }

  pub apart-unjoined : Pairs Apart bs → Pairs (Unjoined B) bs
  apart-unjoined =
      pairs-map bs
      (λ a b m n h.
      record {
        unjoined = λ r c x y i o j. apart-nodes h x y (joined-stays (λ x y e. e) (walled-block (walled a m)) i j) o;
      })
