-- What merging keeps, in whatever order: boxes lie in the blocks in which they lay, and enclose those that they replace. Assumes nothing.
use Rattle.std.proofs.Common.{◌≡◌, refl, ◌⊎◌, inl, inr, List, ◌∷◌, ◌≤◌, arith}
use mathlib.Core.List.Memᴰ
use mathlib.Core.List.Permᴰ
use mathlib.Core.List.{Memᴰ}
use Rattle.mesh.specs.Blocks.{Block}
use Rattle.theory_blocks.specs.Blocks.{Within, Apart, by-east, by-west, by-north, by-south}
use Rattle.theory_blocks.specs.Obstacles.{Listed, Pairs}
use Rattle.theory_blocks.proofs.Apart.{listed-apart}
use Rattle.theory_boxes.specs.Boxes.{Box, around}
use Rattle.theory_boxes.specs.Merging.{Replaced, Merges, begin, again}
use Rattle.theory_boxes.proofs.Close.{Close, Encloses, close-told, around-first, around-second}
use Rattle.theory_boxes.proofs.Orders.{reordered-mem}

-- a has a node, and lies in a block of the list
pub record Lies (bs : List Block) (a : Box) : Type 0 where
  pub tall : a.low-row ≤ a.high-row
  pub wide : a.low_column ≤ a.high-column
  pub block : Block
  pub listed : Listed block bs
  pub low : Within block a.low-row a.low_column
  pub high : Within block a.high-row a.high-column

-- each box of a list does
abbrev pub AllLie : List Block → List Box → Type 0
AllLie bs l = (a : Box) → Memᴰ a l → Lies bs a

-- some box of the list encloses a
pub record Enclosed (l : List Box) (a : Box) : Type 0 where
  pub box : Box
  pub member : Memᴰ box l
  pub encloses : Encloses box a

-- two that are close lie in the same block, and so does the box around them
module _ {bs : List Block} (p : Pairs Apart bs) where
  module _ (a b : Box) (k : Close a b) (i : Lies bs a) (j : Lies bs b) where
    same_block : i.block ≡ j.block
    same_block = go (listed-apart p i.block j.block i.listed j.listed)
      where
        go : (i.block ≡ j.block) ⊎ Apart i.block j.block → i.block ≡ j.block
        go (inl e) = e
        go (inr (by-east h)) = absurd (omega arith)
        go (inr (by-west h)) = absurd (omega arith)
        go (inr (by-north h)) = absurd (omega arith)
        go (inr (by-south h)) = absurd (omega arith)

    around-lies : Lies bs (around a b)
    unfolding around
    around-lies =
        let low : Within i.block b.low-row b.low_column = rw same_block j.low in
        let high : Within i.block b.high-row b.high-column = rw same_block j.high in
        record { tall = omega arith; wide = omega arith; block = i.block; listed = i.listed; low = omega arith; high = omega arith }

  replaced-lie : {l m : List Box} → Replaced l m → AllLie bs l → AllLie bs m
  replaced-lie {l} {m} r all a i = go (Memᴰ.cases_cons (reordered-mem (Permᴰ.symm r.after) i))
    where
      was : {b : Box} → Memᴰ b (r.first ∷ r.second ∷ r.others) → Lies bs b
      was {b} j = all b (reordered-mem (Permᴰ.symm r.before) j)

      go : (a ≡ around r.first r.second) ⊎ Memᴰ a r.others → Lies bs a
      go (inl e) =
          rw e
          (around-lies r.first r.second (close-told r.first r.second r.are-close) (was (Memᴰ.head refl))
          (was (Memᴰ.tail (Memᴰ.head refl))))
      go (inr j) = was (Memᴰ.tail (Memᴰ.tail j))

  pub merges-lie : {l m : List Box} → Merges l m → AllLie bs l → AllLie bs m
  merges-lie (begin r) all a i = all a (reordered-mem (Permᴰ.symm r) i)
  merges-lie (again q r) all a i = replaced-lie r (merges-lie q all) a i

encloses-same : (a : Box) → Encloses a a
encloses-same a = omega arith

encloses-trans : {a b c : Box} → Encloses a b → Encloses b c → Encloses a c
encloses-trans p q = omega arith

replaced-enclose : {l m : List Box} → Replaced l m → (a : Box) → Memᴰ a l → Enclosed m a
replaced-enclose {l} {m} r a i = first (Memᴰ.cases_cons (reordered-mem r.before i))
  where
    by : {b : Box} → Memᴰ b (around r.first r.second ∷ r.others) → Encloses b a → Enclosed m a
    by {b} j e = record { box = b; member = reordered-mem r.after j; encloses = e }

    second : (a ≡ r.second) ⊎ Memᴰ a r.others → Enclosed m a
    second (inl e) = by (Memᴰ.head refl) (rw e (around-second r.first r.second))
    second (inr j) = by (Memᴰ.tail j) (encloses-same a)

    first : (a ≡ r.first) ⊎ Memᴰ a (r.second ∷ r.others) → Enclosed m a
    first (inl e) = by (Memᴰ.head refl) (rw e (around-first r.first r.second))
    first (inr j) = second (Memᴰ.cases_cons j)

pub merges-enclose : {l m : List Box} → Merges l m → (a : Box) → Memᴰ a l → Enclosed m a
merges-enclose (begin r) a i = record { box = a; member = reordered-mem r i; encloses = encloses-same a }
merges-enclose (again q r) a i =
    let e = merges-enclose q a i in
    let f = replaced-enclose r e.box e.member in
    record { box = f.box; member = f.member; encloses = encloses-trans f.encloses e.encloses }
