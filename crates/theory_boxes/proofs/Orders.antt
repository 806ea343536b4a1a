-- Lists of boxes in any order, and merging in any order: what is done first and what after, and beside other boxes. Assumes nothing.
use Rattle.std.proofs.Common.{◌≡◌, refl, ◌∙◌, ap, inl, inr, true, List, ◌∷◌, ◌++◌, suc, ◌≤◌, arith, length}
use mathlib.Core.List.Memᴰ
use mathlib.Core.List.Permᴰ
use mathlib.Core.List.{Memᴰ}
use Rattle.theory_boxes.specs.Boxes.{Box, close, around}
use Rattle.theory_boxes.specs.Merging.{Reordered, Replaced, Merges, begin, again}

pub reordered-mem : {l m : List Box} {a : Box} → Reordered l m → Memᴰ a l → Memᴰ a m
reordered-mem Permᴰ.nil i = i
reordered-mem (Permᴰ.cons e p) i =
    elim (Memᴰ.cases_cons i) [ inl h ↦ Memᴰ.head (h ∙ e) | inr j ↦ Memᴰ.tail (reordered-mem p j) ]
reordered-mem (Permᴰ.swap e f) i =
    elim (Memᴰ.cases_cons i) [
      | inl h ↦ Memᴰ.tail (Memᴰ.head (h ∙ e))
      | inr j ↦ elim (Memᴰ.cases_cons j) [ inl h ↦ Memᴰ.head (h ∙ f) | inr k ↦ Memᴰ.tail (Memᴰ.tail k) ]
    ]
reordered-mem (Permᴰ.trans p q) i = reordered-mem q (reordered-mem p i)

pub reordered-length : {l m : List Box} → Reordered l m → length l ≡ length m
reordered-length Permᴰ.nil = refl
reordered-length (Permᴰ.cons e p) = ap suc (reordered-length p)
reordered-length (Permᴰ.swap e f) = refl
reordered-length (Permᴰ.trans p q) = reordered-length p ∙ reordered-length q

-- One replacement.

-- the same two boxes, among others
same-pair : {l m k n : List Box} (p : Replaced l m) (others : List Box) → Reordered k (p.first ∷ p.second ∷ others) →
    Reordered (around p.first p.second ∷ others) n → Replaced k n
same-pair p others before after =
    record { first = p.first; second = p.second; others = others; before = before; are-close = p.are-close; after = after }

pub replaced-from : {l k m : List Box} → Reordered l k → Replaced k m → Replaced l m
replaced-from r p = same-pair p p.others (Permᴰ.trans r p.before) p.after

replaced-to : {l m n : List Box} → Replaced l m → Reordered m n → Replaced l n
replaced-to p r = same-pair p p.others p.before (Permᴰ.trans p.after r)

-- one box stands before them
pub replaced-behind : (a : Box) {l m : List Box} → Replaced l m → Replaced (a ∷ l) (a ∷ m)
replaced-behind a p =
    same-pair p (a ∷ p.others)
    (Permᴰ.trans (Permᴰ.cons refl p.before)
    (Permᴰ.trans (Permᴰ.swap refl refl) (Permᴰ.cons refl (Permᴰ.swap refl refl))))
    (Permᴰ.trans (Permᴰ.swap refl refl) (Permᴰ.cons refl p.after))

-- some stand after them
replaced-beside : (r : List Box) {l m : List Box} → Replaced l m → Replaced (l ++ r) (m ++ r)
replaced-beside r p =
    same-pair p (p.others ++ r) (Permᴰ.append_right r p.before) (Permᴰ.append_right r p.after)

pub replaced-pair : (a b : Box) (l : List Box) → close a b ≡ true → Replaced (a ∷ b ∷ l) (around a b ∷ l)
replaced-pair a b l e =
    record { first = a; second = b; others = l; before = Permᴰ.refl _; are-close = e; after = Permᴰ.refl _ }

-- a shorter list
pub replaced-shorter : {l m : List Box} → Replaced l m → length l ≡ suc (length m)
replaced-shorter p = reordered-length p.before ∙ ap suc (reordered-length p.after)

-- Any number of them.

pub merges-to : {l m n : List Box} → Merges l m → Reordered m n → Merges l n
merges-to (begin p) r = begin (Permᴰ.trans p r)
merges-to (again p q) r = again p (replaced-to q r)

pub merges-trans : {l m n : List Box} → Merges l m → Merges m n → Merges l n
merges-trans p (begin r) = merges-to p r
merges-trans p (again q r) = again (merges-trans p q) r

pub merges-from : {l k m : List Box} → Reordered l k → Merges k m → Merges l m
merges-from r p = merges-trans (begin r) p

pub merges-pair : (a b : Box) (l : List Box) → close a b ≡ true → Merges (a ∷ b ∷ l) (around a b ∷ l)
merges-pair a b l e = again (begin (Permᴰ.refl _)) (replaced-pair a b l e)

pub merges-beside : (r : List Box) {l m : List Box} → Merges l m → Merges (l ++ r) (m ++ r)
merges-beside r (begin p) = begin (Permᴰ.append_right r p)
merges-beside r (again p q) = again (merges-beside r p) (replaced-beside r q)

pub merges-shorter : {l m : List Box} → Merges l m → length m ≤ length l
merges-shorter (begin p) = omega (arith, reordered-length p)
merges-shorter (again p q) = omega (arith, merges-shorter p, replaced-shorter q)
