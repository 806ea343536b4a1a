-- The state and the place as the code works them out. Assumes nothing.
use Rattle.std.proofs.Common.{◌≡◌, ℕ, ◌+◌, ◌-◌, ◌*◌, ◌/◌, ◌%◌, ◌^◌, ◌<◌, ◌≤◌, sym, mul-le-mul, arith}
use native.Mathlib.Nat.{mod-add-mod}
use Rattle.mesh.specs.Mesh.{place}
use Rattle.theory_draw.specs.Draws.{next_state, place_count, picked, picked_place}
use Rattle.theory_draw.proofs.Theorems.{place-count, place-of-number}
use Rattle.theory_draw.proofs.Numbers.{some-place}
use Rattle.theory_draw.proofs.Draws.{picked-below}

-- the product wrapped first, then the sum
pub next-wraps : (state : ℕ) → (1664525 * state % 2 ^ 32 + 1013904223) % 2 ^ 32 ≡ next_state state
unfolding next_state
next-wraps state = mod-add-mod (1664525 * state) (2 ^ 32) 1013904223

-- a mesh that has allowed places
module _ (columns rows : ℕ) (wide : 5 ≤ columns) (high : 3 ≤ rows) where
  pub places-few : columns ≤ 64 → rows ≤ 64 → (rows - 2) * (columns - 4) ≤ 3720
  places-few p q = mul-le-mul {n₁ = rows - 2} {m₁ = columns - 4} {n₂ = 62} {m₂ = 60} (omega arith) (omega arith)

  module _ {state k : ℕ} (fits : state < 2 ^ 32) (is : k ≡ picked ((rows - 2) * (columns - 4)) state) where
    low-number : k < place_count columns rows
    low-number =
        rw (is, ← place-count columns rows) (picked-below _ state (some-place columns rows wide high) fits)

    pub number-small : columns ≤ 64 → rows ≤ 64 → k ≤ 3720
    number-small p q = let few = places-few p q in let below = rw (place-count columns rows) at low-number in omega arith

    pub place-picked : place (k / (columns - 4) + 1) (k % (columns - 4) + 2) ≡ picked_place columns rows state
    unfolding picked_place
    place-picked = rw (place-count columns rows, ← is) (sym (place-of-number columns rows k low-number))
