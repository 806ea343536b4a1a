-- Bytes above 1 and faults out of place, and what refusals 1 to 3 and 1 to 5 let pass. Assumes nothing.
use Rattle.std.proofs.Common.{◌≡◌, refl, Bool, false, not, List, [], ◌∷◌, ℕ, suc, ◌/◌, ◌%◌, ◌≤◌, ltb, length, arith}
use Rattle.std.specs.List.{list_any}
use borrow.Author.Tests.{ne_eqb}
use Rattle.mesh.specs.Nodes.{is_bad}
use Rattle.mesh.specs.Tests.{first}
use Rattle.mesh.specs.Maps.{allowed, bad_size, bad_length, some, bad_byte, misplaced_at, map_tests}
use Rattle.mesh.proofs.Maps.{good-size, good_length, accepted}
use Rattle.mesh.proofs.Index.{few-nodes}
use Rattle.nodes.specs.Sized.{Sized}
use Rattle.nodes.proofs.Lookup.{is_bad-test}

-- a test that needs no index
some-any : (t : ℕ → Bool) (i : ℕ) (xs : List ℕ) → list_any t xs ≡ some (λ _ x. t x) i xs
unfolding some
some-any t i [] = refl
some-any t i (x ∷ xs) = rw (some-any t (suc i) xs)

pub any-bad : (map : List ℕ) → list_any (λ x. ltb 1 x) map ≡ bad_byte map
unfolding bad_byte
any-bad map = some-any (λ x. ltb 1 x) 0 map

module _ (columns rows i x : ℕ) where
  pub sound-placed : x ≡ 0 → false ≡ misplaced_at columns rows i x
  unfolding misplaced_at is_bad
  sound-placed e = rw e

  pub fault-placed : {a : Bool} → (x ≡ 0 → ⊥) → a ≡ allowed columns rows (i / columns) (i % columns) → not a ≡ misplaced_at columns rows i x
  unfolding misplaced_at
  fault-placed h e = rw (← is_bad-test x, ne_eqb x 0 h, e)

-- what the first three refusals leave is what the last one asks
pub sized : (columns rows : ℕ) (map : List ℕ) → bad_size columns ≡ false → bad_size rows ≡ false → bad_length columns rows map ≡ false →
    Sized columns rows map
sized columns rows map a b d = record { few-columns = good-size columns a; few-rows = good-size rows b; size = good_length columns rows map d }

-- what refusals 1 to 5 let pass
module _ (columns rows : ℕ) (map : List ℕ) (clear : first (map_tests columns rows map) ≡ 0) where
  pub clear-sized : Sized columns rows map
  clear-sized =
      let a = accepted clear in
      record { few-columns = a.few-columns; few-rows = a.few-rows; size = a.size }

  pub clear-few : length map ≤ 4096
  clear-few =
      let a = accepted clear in
      omega (arith, a.size, few-nodes columns rows a.few-columns a.few-rows)
