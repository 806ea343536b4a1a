-- A record that is left unchanged is the same numbers. Assumes nothing.
use Rattle.std.proofs.Common.{◌≡◌, refl, sym, ap, true, List, [], ◌∷◌, ℕ, zero, suc, ◌<◌, eqb, ltb, length, get_or, arith}
use borrow.Author.Tests.{eqb-true, ltb-true}
use lib.ListN.{set}
use Rattle.mesh.specs.Headings.{last_of, last_number}
use Rattle.mesh.proofs.Bools.{and_both}
use Rattle.c_moving.specs.Numbers.{is_record, packet_of, numbers_of}

-- a list of five numbers, by its numbers
five : (xs : List ℕ) → length xs ≡ 5 → get_or xs 0 0 ∷ get_or xs 1 0 ∷ get_or xs 2 0 ∷ get_or xs 3 0 ∷ get_or xs 4 0 ∷ [] ≡ xs
five [] h = absurd (omega arith)
five (u ∷ []) h = absurd (omega arith)
five (u ∷ v ∷ []) h = absurd (omega arith)
five (u ∷ v ∷ w ∷ []) h = absurd (omega arith)
five (u ∷ v ∷ w ∷ x ∷ []) h = absurd (omega arith)
five (u ∷ v ∷ w ∷ x ∷ y ∷ []) h = refl
five (u ∷ v ∷ w ∷ x ∷ y ∷ z ∷ zs) h = absurd (omega arith)

-- a list of five numbers, of which each is put in its place
pub filled : (xs : List ℕ) (a b c d e : ℕ) → length xs ≡ 5 → set (set (set (set (set xs 0 a) 1 b) 2 c) 3 d) 4 e ≡ a ∷ b ∷ c ∷ d ∷ e ∷ []
filled xs a b c d e h = ap (λ ys. set (set (set (set (set ys 0 a) 1 b) 2 c) 3 d) 4 e) (sym (five xs h))

last-kept : (n : ℕ) → n < 5 → last_number (last_of n) ≡ n
unfolding last_of
last-kept zero h = refl
last-kept (suc zero) h = refl
last-kept (suc (suc zero)) h = refl
last-kept (suc (suc (suc zero))) h = refl
last-kept (suc (suc (suc (suc zero)))) h = refl
last-kept (suc (suc (suc (suc (suc n))))) h = absurd (omega arith)

-- a record that is left unchanged is the same five numbers
pub record-kept : (xs : List ℕ) → is_record xs ≡ true → numbers_of (packet_of xs) ≡ xs
unfolding packet_of numbers_of is_record
record-kept xs t =
    let (n, l) = and_both {a = eqb (length xs) 5} {b = ltb (get_or xs 2 0) 5} t in
    rw (last-kept (get_or xs 2 0) (ltb-true (get_or xs 2 0) 5 l)) (five xs (eqb-true (length xs) 5 n))
