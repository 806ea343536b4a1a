-- The faults that reading meets: 19 and 20 at a number, up to 21 at the legs, up to 22 in all. Assumes nothing.
use Rattle.std.proofs.Common.{Option, Some, None, ◌≡◌, Bool, true, false, cond, List, [], ◌∷◌, ℕ, zero, suc, ◌≤◌, arith, ltb}
use Rattle.mesh.specs.declared.Heading.{Heading}
use Rattle.mesh.specs.Headings.{last_is}
use Rattle.theory_legs.specs.Groups.{Found, fault, found, and_then, above, read_groups, not_large, read_number}
use Rattle.theory_legs.specs.Legs.{Leg}
use Rattle.theory_legs.specs.Files.{leg_of, leg_before, read_legs, all_read, read_file}

-- any fault is from 19 to m
data Known {A : Type 0} (m : ℕ) : Found A → Type 0 where
  is-fault : (k : ℕ) → 19 ≤ k → k ≤ m → Known m (fault k)
  is_found : {a : A} {rest : List ℕ} → Known m (found a rest)

told-known : {A : Type 0} {m k : ℕ} → Known {A = A} m (fault k) → (19 ≤ k) × (k ≤ m)
told-known (is-fault k l h) = (l, h)

known-cond : {A : Type 0} {m : ℕ} (b : Bool) {x y : Found A} → Known m x → Known m y → Known m (cond b x y)
known-cond true p q = p
known-cond false p q = q

known-then : {A B : Type 0} {m n : ℕ} (x : Found A) (next : A → List ℕ → Found B) → m ≤ n → Known m x →
    ((a : A) (rest : List ℕ) → Known n (next a rest)) → Known n (and_then x next)
unfolding and_then
known-then (fault k) next l p q = let t = told-known p in is-fault k t.0 (omega arith)
known-then (found a rest) next l p q = q a rest

above-known : (g n : ℕ) (rest : List ℕ) → Known 20 (above g n rest)
unfolding above
above-known g zero rest = is-fault 20 (omega arith) (omega arith)
above-known g (suc n) rest = is_found

groups-known : (k : ℕ) (xs : List ℕ) → Known 20 (read_groups k xs)
unfolding read_groups
groups-known zero xs = is-fault 20 (omega arith) (omega arith)
groups-known (suc k) [] = is-fault 19 (omega arith) (omega arith)
groups-known (suc k) (g ∷ rest) =
    known-cond (ltb g 128) is_found (known-then (read_groups k rest) (above g) (omega arith) (groups-known k rest) (above-known g))

number-known : (xs : List ℕ) → Known 20 (read_number xs)
unfolding read_number not_large
number-known xs =
    known-then (read_groups 3 xs) not_large (omega arith) (groups-known 3 xs)
    (λ n rest. known-cond (ltb 65535 n) (is-fault 20 (omega arith) (omega arith)) is_found)

before-known : (l : Leg) (x : Found (List Leg)) → Known 21 x → Known 21 (leg_before l x)
unfolding leg_before
before-known l (fault k) p = p
before-known l (found ls rest) p = is_found

legs-known : (k : ℕ) (before : Option Heading) (xs : List ℕ) → Known 21 (read_legs k before xs)
unfolding read_legs
legs-known zero before xs = is_found
legs-known (suc k) before xs =
    known-then (read_number xs) _ (omega arith) (number-known xs)
    (λ n rest.
    let next = Some (leg_of n).heading in
    known-cond (last_is before (leg_of n).heading) (is-fault 21 (omega arith) (omega arith))
    (before-known (leg_of n) (read_legs k next rest) (legs-known k next rest)))

all_known : (ls : List Leg) (rest : List ℕ) → Known 22 (all_read ls rest)
unfolding all_read
all_known ls [] = is_found
all_known ls (x ∷ xs) = is-fault 22 (omega arith) (omega arith)

file-known : (ys : List ℕ) → Known 22 (read_file ys)
unfolding read_file
file-known ys =
    known-then (and_then (read_number ys) _) all_read (omega arith)
    (known-then (read_number ys) _ (omega arith) (number-known ys) (λ k rest. legs-known k None rest)) all_known

pub number-fault-known : (ys : List ℕ) {k : ℕ} → read_number ys ≡ fault k → (19 ≤ k) × (k ≤ 20)
number-fault-known ys e = told-known (rw e at (number-known ys))

pub legs-fault-known : (n : ℕ) (before : Option Heading) (ys : List ℕ) {k : ℕ} → read_legs n before ys ≡ fault k → (19 ≤ k) × (k ≤ 21)
legs-fault-known n before ys e = told-known (rw e at (legs-known n before ys))

pub fault-known : (ys : List ℕ) {k : ℕ} → read_file ys ≡ fault k → (19 ≤ k) × (k ≤ 22)
fault-known ys e = told-known (rw e at (file-known ys))
