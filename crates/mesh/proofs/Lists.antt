-- Lists compared, and the letters of hops. Assumes nothing.
use Rattle.std.proofs.Common.{◌≡◌, refl, ap, true, List, [], ◌∷◌, ℕ, suc, eq-eqb, eqb-true, length}
use Rattle.std.proofs.lemmas.Bool.{and_parts}
use Rattle.mesh.specs.Headings.{Heading, letters}
use Rattle.mesh.specs.Rounds.{same_list}

pub same-eq : (xs ys : List ℕ) → same_list xs ys ≡ true → xs ≡ ys
unfolding same_list
same-eq [] [] e = refl
same-eq [] (y ∷ ys) e = cc
same-eq (x ∷ xs) [] e = cc
same-eq (x ∷ xs) (y ∷ ys) e =
    let h = and_parts _ _ e in
    rw (eqb-true x y h.0, same-eq xs ys h.1)

pub same_refl : (xs : List ℕ) → same_list xs xs ≡ true
unfolding same_list
same_refl [] = refl
same_refl (x ∷ xs) = rw (eq-eqb x x refl, same_refl xs)

pub letters-length : (hs : List Heading) → length (letters hs) ≡ length hs
unfolding letters
letters-length [] = refl
letters-length (h ∷ hs) = ap suc (letters-length hs)
