-- Lists of boxes of which no two are close. Assumes nothing.
use Rattle.std.proofs.Common.{◌≡◌, ◌∙◌, ◌⊎◌, inl, inr, false, List, [], ◌∷◌}
use Rattle.std.proofs.lemmas.Bool.{or_parts}
use mathlib.Core.List.Memᴰ
use mathlib.Core.List.{Memᴰ}
use Rattle.theory_blocks.specs.Obstacles.{Pairs, none, more}
use Rattle.theory_blocks.proofs.Apart.{pairs-any}
use Rattle.theory_boxes.specs.Boxes.{Box, close, close_to, some_close}
use Rattle.theory_boxes.proofs.Close.{close-swap}

-- two boxes are not close
pub record Far (a b : Box) : Type 0 where
  pub far : close a b ≡ false

close_to-far : (a : Box) (l : List Box) → close_to a l ≡ false → (b : Box) → Memᴰ b l → Far a b
unfolding close_to
close_to-far a [] e b i = absurd (Memᴰ.not-nil i)
close_to-far a (c ∷ l) e b i =
    let (p, q) = or_parts (close a c) (close_to a l) e in
    elim (Memᴰ.cases_cons i) [ inl h ↦ record { far = rw h p } | inr j ↦ close_to-far a l q b j ]

pub none-close : (l : List Box) → some_close l ≡ false → Pairs Far l
unfolding some_close
none-close [] e = none
none-close (a ∷ l) e =
    let (p, q) = or_parts (close_to a l) (some_close l) e in
    more (close_to-far a l p) (none-close l q)

far-sym : (a b : Box) → Far a b → Far b a
far-sym a b f = record { far = close-swap b a ∙ f.far }

-- two boxes of such a list are the same one, or far
pub far-any : {l : List Box} → Pairs Far l → (a b : Box) → Memᴰ a l → Memᴰ b l → (a ≡ b) ⊎ Far a b
far-any {l} p a b m n = pairs-any far-sym l p a b m n
