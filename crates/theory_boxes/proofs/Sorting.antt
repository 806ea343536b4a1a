-- Sorting by lowest row, then lowest column: the same boxes, each before the later ones; and no two such lists have the same boxes. Assumes nothing.
use Rattle.std.proofs.Common.{◌≡◌, refl, sym, ◌⊎◌, inl, inr, true, false, List, [], ◌∷◌}
use Rattle.std.proofs.lemmas.Bool.{cases_Bool}
use mathlib.Core.List.Memᴰ
use mathlib.Core.List.Permᴰ
use mathlib.Core.List.{Memᴰ}
use Rattle.theory_blocks.specs.Obstacles.{Pairs, none, more}
use Rattle.theory_boxes.specs.Boxes.{Box, earlier, insert, sorted}
use Rattle.theory_boxes.specs.Merging.{Reordered}
use Rattle.theory_boxes.proofs.Orders.{reordered-mem}
use Rattle.theory_boxes.proofs.Earlier.{Before, Differ, earlier-told, later-told, before-trans, not_itself}

-- Sorting keeps the boxes.
insert-reordered : (a : Box) (l : List Box) → Reordered (a ∷ l) (insert a l)
unfolding insert
insert-reordered a [] = Permᴰ.refl _
insert-reordered a (b ∷ l) =
    let rest = insert-reordered a l in
    elim (cases_Bool (earlier a b)) [
      | inl e ↦ rw e (Permᴰ.refl _)
      | inr e ↦ rw e (Permᴰ.trans (Permᴰ.swap refl refl) (Permᴰ.cons refl rest))
    ]

pub sorted-reordered : (l : List Box) → Reordered l (sorted l)
unfolding sorted
sorted-reordered [] = Permᴰ.nil
sorted-reordered (a ∷ l) = Permᴰ.trans (Permᴰ.cons refl (sorted-reordered l)) (insert-reordered a (sorted l))

-- It puts each before the later ones, if no two begin at the same node.
insert-pairs : (a : Box) (l : List Box) → ((b : Box) → Memᴰ b l → Differ a b) → Pairs Before l → Pairs Before (insert a l)
unfolding insert
insert-pairs a [] d none = more (λ b m. absurd (Memᴰ.not-nil m)) none
insert-pairs a (b ∷ l) d (more h p) =
    go (insert-pairs a l (λ x i. d x (Memᴰ.tail i)) p) (cases_Bool (earlier a b))
  where
    after : earlier a b ≡ false → (x : Box) → (x ≡ a) ⊎ Memᴰ x l → Before b x
    after e x (inl s) = rw s (later-told a b e (d b (Memᴰ.head refl)))
    after e x (inr i) = h x i

    first : earlier a b ≡ true → (x : Box) → (x ≡ b) ⊎ Memᴰ x l → Before a x
    first e x (inl s) = rw s (earlier-told a b e)
    first e x (inr i) = before-trans (earlier-told a b e) (h x i)

    go : Pairs Before (insert a l) → (earlier a b ≡ true) ⊎ (earlier a b ≡ false) → Pairs Before (insert a (b ∷ l))
    go rest (inl e) = rw e (more (λ x i. first e x (Memᴰ.cases_cons i)) (more h p))
    go rest (inr e) =
        rw e (more (λ x i. after e x (Memᴰ.cases_cons (reordered-mem (Permᴰ.symm (insert-reordered a l)) i))) rest)

pub sorted-pairs : (l : List Box) → Pairs Differ l → Pairs Before (sorted l)
unfolding sorted
sorted-pairs [] none = none
sorted-pairs (a ∷ l) (more h p) =
    insert-pairs a (sorted l) (λ b m. h b (reordered-mem (Permᴰ.symm (sorted-reordered l)) m)) (sorted-pairs l p)

-- what comes after a is not a
not_first : {a x : Box} {l : List Box} → Before a x → Memᴰ x (a ∷ l) → Memᴰ x l
not_first p i = elim (Memᴰ.cases_cons i) [ inl e ↦ absurd (not_itself (rw e at p)) | inr j ↦ j ]

-- Two lists with the same boxes, each box before the later ones, are equal.
pub sorted-same : (l m : List Box) → Pairs Before l → Pairs Before m → ((x : Box) → Memᴰ x l → Memᴰ x m) →
    ((x : Box) → Memᴰ x m → Memᴰ x l) → l ≡ m
sorted-same [] [] none none f g = refl
sorted-same [] (b ∷ m) none q f g = absurd (Memᴰ.not-nil (g b (Memᴰ.head refl)))
sorted-same (a ∷ l) [] p none f g = absurd (Memᴰ.not-nil (f a (Memᴰ.head refl)))
sorted-same (a ∷ l) (b ∷ m) (more h p) (more k q) f g =
    let e = heads (Memᴰ.cases_cons (f a (Memᴰ.head refl))) (Memᴰ.cases_cons (g b (Memᴰ.head refl))) in
    let f' : (x : Box) → Memᴰ x l → Memᴰ x m = λ x i. not_first (h x i) (rw e (f x (Memᴰ.tail i))) in
    let g' : (x : Box) → Memᴰ x m → Memᴰ x l = λ x i. not_first (k x i) (rw e at (g x (Memᴰ.tail i))) in
    rw (e, sorted-same l m p q f' g')
  where
    heads : (a ≡ b) ⊎ Memᴰ a m → (b ≡ a) ⊎ Memᴰ b l → a ≡ b
    heads (inl e) j = e
    heads (inr i) (inl e) = sym e
    heads (inr i) (inr j) = absurd (not_itself (before-trans (k a i) (h b j)))
