-- The merging of the definitions: each time two close boxes are replaced, and at the end none are close. Assumes nothing.
use Rattle.std.proofs.Common.{◌≡◌, refl, inl, inr, Bool, true, false, cond, List, [], ◌∷◌, ℕ, zero, suc, ◌≤◌, arith, length}
use Rattle.std.proofs.lemmas.Bool.{cases_Bool}
use mathlib.Core.List.Permᴰ
use Rattle.mesh.proofs.Bools.{true-false}
use Rattle.theory_boxes.specs.Boxes.{Box, close, close_to, some_close, joined, merge_two, merge_all}
use Rattle.theory_boxes.specs.Merging.{Replaced, Merges, begin, again}
use Rattle.theory_boxes.proofs.Orders.{replaced-pair, replaced-from, replaced-behind, replaced-shorter, merges-trans}

-- whichever list a test picks
picked : {l x y : List Box} (b : Bool) → (b ≡ true → Replaced l x) → (b ≡ false → Replaced l y) → Replaced l (cond b x y)
picked true f g = f refl
picked false f g = g refl

joined-replaced : (a : Box) (l : List Box) → close_to a l ≡ true → Replaced (a ∷ l) (joined a l)
unfolding close_to joined
joined-replaced a [] e = true-false e refl
joined-replaced a (b ∷ l) e =
    picked (close a b) (replaced-pair a b l)
    (λ h. replaced-from (Permᴰ.swap refl refl) (replaced-behind b (joined-replaced a l (rw h at e))))

pub two-replaced : (l : List Box) → some_close l ≡ true → Replaced l (merge_two l)
unfolding some_close merge_two
two-replaced [] e = true-false e refl
two-replaced (a ∷ l) e =
    picked (close_to a l) (joined-replaced a l) (λ h. replaced-behind a (two-replaced l (rw h at e)))

pub all-merges : (k : ℕ) (l : List Box) → Merges l (merge_all k l)
unfolding merge_all
all-merges zero l = begin (Permᴰ.refl l)
all-merges (suc k) l =
    elim (cases_Bool (some_close l)) [
      | inl e ↦ rw e (merges-trans (again (begin (Permᴰ.refl l)) (two-replaced l e)) (all-merges k (merge_two l)))
      | inr e ↦ rw e (begin (Permᴰ.refl l))
    ]

-- each time leaves a box less, so their number is enough
pub all-far : (k : ℕ) (l : List Box) → length l ≤ k → some_close (merge_all k l) ≡ false
unfolding merge_all some_close
all-far zero [] h = refl
all-far zero (a ∷ l) h = absurd (omega arith)
all-far (suc k) l h =
    elim (cases_Bool (some_close l)) [
      | inl e ↦ rw e (all-far k (merge_two l) (omega (arith, replaced-shorter (two-replaced l e))))
      | inr e ↦ rw e e
    ]
