-- Merging in any order: whatever two close boxes are replaced next, and wherever the boxes stand in the list. Assumes nothing.
use Rattle.std.specs.Prelude.{◌≡◌, true, List, ◌∷◌}
use mathlib.Core.List.{Permᴰ}
use Rattle.theory_boxes.specs.Boxes.{Box, close, around}

-- the same boxes, each as often, in any order
abbrev pub Reordered : List Box → List Box → Type 0
Reordered l m = Permᴰ l m

-- of l's boxes two that are close are replaced by the one around both: that leaves m
pub record Replaced (l m : List Box) : Type 0 where
  pub first : Box
  pub second : Box
  pub others : List Box
  pub before : Reordered l (first ∷ second ∷ others)
  pub are-close : close first second ≡ true
  pub after : Reordered (around first second ∷ others) m

-- this is done any number of times
pub data Merges (l : List Box) : List Box → Type 0 where
  begin : {m : List Box} → Reordered l m → Merges l m
  again : {m n : List Box} → Merges l m → Replaced m n → Merges l n
