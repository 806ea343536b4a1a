-- States are below 2^32, a draw picks a number of the places, and every drawn place is an allowed one. Assumes nothing.
use Rattle.std.proofs.Common.{◌≡◌, refl, inl, inr, ◌↔◌, true, false, ◌&&◌, ◌||◌, List, [], ◌∷◌, ℕ, zero, suc, ◌*◌, ◌^◌, ◌≤◌, ◌<◌, mul_comm, mod-lt, div-lt_iff_lt-mul, arith, ltb-true, ltb-false, eqb-true, lt-ltb, eq-eqb, ltb, eqb, pow_pos, length}
use Rattle.std.proofs.lemmas.Bool.{and_parts, or_cases, or_parts, eqb-false}
use Rattle.std.proofs.Math.Bool.{or-true}
use Rattle.std.proofs.Math.Nat.{mul-lt-mul_of_pos_left}
use Rattle.mesh.specs.declared.Place.{Place}
use Rattle.mesh.proofs.Bools.{and_right}
use Rattle.theory_draw.specs.Draws.{next_state, state_after, place_count, picked, picked_place, drawn_places}
use Rattle.theory_draw.specs.Drawing.{bad_draws}
use Rattle.theory_draw.specs.Claims.{Allowed, Undrawable}
use Rattle.theory_draw.proofs.Numbers.{no_place, numbered-allowed}

pub next-below : (state : ℕ) → next_state state < 2 ^ 32
unfolding next_state
next-below state = mod-lt _ (pow_pos 32)

-- after a draw, whatever the seed
pub state-below : (seed n : ℕ) → state_after seed (suc n) < 2 ^ 32
unfolding state_after
state-below seed n = next-below (state_after seed n)

pub picked-below : (n state : ℕ) → 0 < n → state < 2 ^ 32 → picked n state < n
unfolding picked
picked-below n state h s =
    (div-lt_iff_lt-mul {k = 2 ^ 32} {x = state * n} {y = n} (pow_pos 32)).1 (rw (mul_comm state n) (mul-lt-mul_of_pos_left s h))

-- all of them are allowed
pub data AllAllowed (columns rows : ℕ) : List Place → Type 0 where
  none : AllAllowed columns rows []
  more : {p : Place} {ps : List Place} → Allowed columns rows p → AllAllowed columns rows ps → AllAllowed columns rows (p ∷ ps)

-- refusal 24 does not apply
module _ (columns rows n : ℕ) (good : bad_draws columns rows n ≡ false) where
  pub few-draws : n ≤ 1000
  unfolding bad_draws
  few-draws = ltb-false 1000 n (or_parts (ltb 1000 n) _ good).0

  pub some-places : 0 < n → 0 < place_count columns rows
  unfolding bad_draws
  some-places h =
      let none = eqb-false (place_count columns rows) 0 (and_right (ltb 0 n) _ (lt-ltb _ _ h) (or_parts (ltb 1000 n) _ good).1) in
      omega (arith, none)

-- refusal 24 applies
pub draws-refused : (columns rows n : ℕ) → bad_draws columns rows n ≡ true ↔ Undrawable columns rows n
unfolding bad_draws
draws-refused columns rows n = (told, holds)
  where
    told : ltb 1000 n || (ltb 0 n && eqb (place_count columns rows) 0) ≡ true → Undrawable columns rows n
    told e =
        elim (or_cases (ltb 1000 n) _ e) [
          | inl many ↦ inl (ltb-true 1000 n many)
          | inr drawn ↦
              let (some, zero-places) = and_parts (ltb 0 n) _ drawn in
              inr (ltb-true 0 n some, (no_place columns rows).0 (eqb-true _ _ zero-places))
        ]

    holds : Undrawable columns rows n → ltb 1000 n || (ltb 0 n && eqb (place_count columns rows) 0) ≡ true
    holds (inl many) = rw (lt-ltb 1000 n many)
    holds (inr (some, small)) = rw (lt-ltb 0 n some, eq-eqb (place_count columns rows) 0 ((no_place columns rows).1 small)) (or-true (ltb 1000 n))

module _ (columns rows : ℕ) where
  pub picked-allowed : 0 < place_count columns rows → (state : ℕ) → state < 2 ^ 32 → Allowed columns rows (picked_place columns rows state)
  unfolding picked_place
  picked-allowed some state h = numbered-allowed columns rows _ (picked-below (place_count columns rows) state some h)

  pub drawn-allowed : (seed n : ℕ) → (0 < n → 0 < place_count columns rows) → AllAllowed columns rows (drawn_places columns rows seed n)
  unfolding drawn_places
  drawn-allowed seed zero some = none
  drawn-allowed seed (suc n) some =
      more (picked-allowed (some (omega arith)) (state_after seed (suc n)) (state-below seed n)) (drawn-allowed seed n (λ h. some (omega arith)))

  pub drawn-length : (seed n : ℕ) → length (drawn_places columns rows seed n) ≡ n
  unfolding drawn_places
  drawn-length seed zero = refl
  drawn-length seed (suc n) = rw (drawn-length seed n)
