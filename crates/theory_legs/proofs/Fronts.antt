-- Reading goes from the front: what was read, and any fault but 19, stays whatever bytes follow. Assumes nothing.
use Rattle.std.proofs.Common.{Option, Some, None, ◌≡◌, sym, ◌≢◌, Bool, true, false, cond, List, [], ◌∷◌, ◌++◌, ℕ, zero, suc, arith, ltb}
use Rattle.mesh.specs.declared.Heading.{Heading}
use Rattle.mesh.specs.Headings.{last_is}
use Rattle.theory_legs.specs.Groups.{Found, fault, found, and_then, above, read_groups, not_large, read_number}
use Rattle.theory_legs.specs.Legs.{Leg}
use Rattle.theory_legs.specs.Files.{leg_of, leg_before, read_legs, all_read, read_file}

module _ (more : List ℕ) where
  -- y is x with more bytes after it
  data Extends {A : Type 0} : Found A → Found A → Type 0 where
    both_found : {a : A} {rest : List ℕ} → Extends (found a rest) (found a (rest ++ more))
    both-fault : {k : ℕ} → Extends (fault k) (fault k)
    cut_short : {y : Found A} → Extends (fault 19) y

  -- what follows is read from further on
  then-extends : {A B : Type 0} {x y : Found A} {f : A → List ℕ → Found B} → Extends x y →
      ((a : A) (rest : List ℕ) → Extends (f a rest) (f a (rest ++ more))) → Extends (and_then x f) (and_then y f)
  unfolding and_then
  then-extends both_found g = g _ _
  then-extends both-fault g = both-fault
  then-extends cut_short g = cut_short

  cond-extends : {A : Type 0} (b : Bool) {x y x' y' : Found A} → Extends x x' → Extends y y' → Extends (cond b x y) (cond b x' y')
  cond-extends true p q = p
  cond-extends false p q = q

  above-extends : (g n : ℕ) (rest : List ℕ) → Extends (above g n rest) (above g n (rest ++ more))
  unfolding above
  above-extends g zero rest = both-fault
  above-extends g (suc n) rest = both_found

  groups-extend : (k : ℕ) (xs : List ℕ) → Extends (read_groups k xs) (read_groups k (xs ++ more))
  unfolding read_groups
  groups-extend zero xs = both-fault
  groups-extend (suc k) [] = cut_short
  groups-extend (suc k) (g ∷ xs) =
      cond-extends (ltb g 128) both_found (then-extends (groups-extend k xs) (above-extends g))

  number-extends : (xs : List ℕ) → Extends (read_number xs) (read_number (xs ++ more))
  unfolding read_number not_large
  number-extends xs = then-extends (groups-extend 3 xs) (λ n rest. cond-extends (ltb 65535 n) both-fault both_found)

  before-extends : (l : Leg) {x y : Found (List Leg)} → Extends x y → Extends (leg_before l x) (leg_before l y)
  unfolding leg_before
  before-extends l both_found = both_found
  before-extends l both-fault = both-fault
  before-extends l cut_short = cut_short

  legs-extend : (k : ℕ) (before : Option Heading) (xs : List ℕ) → Extends (read_legs k before xs) (read_legs k before (xs ++ more))
  unfolding read_legs
  legs-extend zero before xs = both_found
  legs-extend (suc k) before xs =
      then-extends (number-extends xs)
      (λ n rest.
      cond-extends (last_is before (leg_of n).heading) both-fault
      (before-extends (leg_of n) (legs-extend k (Some (leg_of n).heading) rest)))

  -- bytes left over stay left over
  all-stays : {x y : Found (List Leg)} {k : ℕ} → Extends x y → and_then x all_read ≡ fault k → k ≢ 19 → and_then y all_read ≡ fault k
  unfolding and_then all_read
  all-stays (both_found {rest = []}) e n = let z : ◌≡◌ {A = ℕ} 0 1 = cc in absurd (omega arith)
  all-stays (both_found {rest = r ∷ rest}) e n = e
  all-stays both-fault e n = e
  all-stays {k = k} cut_short e n = let z : 19 ≡ k = cc in absurd (n (sym z))

  pub fault-stays : (ys : List ℕ) {k : ℕ} → read_file ys ≡ fault k → k ≢ 19 → read_file (ys ++ more) ≡ fault k
  unfolding read_file
  fault-stays ys e n = all-stays (then-extends (number-extends ys) (λ k rest. legs-extend k None rest)) e n
