-- All that is used of which columns permit which turn, on either network: the two kinds are opposite, which holds by definition, and change
-- with each column.
-- Assumes nothing.
use Rattle.std.proofs.Common.{◌≡◌, refl, sym, ◌∙◌, not, ℕ, zero, suc, ◌+◌, ◌-◌, ◌%◌, ◌<◌, mod-lt, arith}
use Rattle.std.proofs.Math.Nat.{mod-add-mod}
use Rattle.mesh.specs.declared.Network.{Network}
use Rattle.mesh.specs.declared.Network.TheVariants.{First, Second}
use Rattle.mesh.specs.Parity.{remainder, permits_west, turns_west}

pub remainder-few : (n : Network) (c : ℕ) → remainder n c < 2
remainder-few First c = mod-lt c (omega arith)
remainder-few Second c = omega arith

-- the other remainder permits the other turns
other : (m : ℕ) → m < 2 → permits_west (1 - m) ≡ not (permits_west m)
other zero h = refl
other (suc zero) h = refl
other (suc (suc m)) h = absurd (omega arith)

-- the next column has the other remainder
next : (c : ℕ) → (c + 1) % 2 ≡ 1 - c % 2
next c = sym (mod-add-mod c 2 1) ∙ by (c % 2) (mod-lt c (omega arith))
  where
    by : (m : ℕ) → m < 2 → (m + 1) % 2 ≡ 1 - m
    by zero h = refl
    by (suc zero) h = refl
    by (suc (suc m)) h = absurd (omega arith)

pub turns-change : (n : Network) (c : ℕ) → turns_west n (c + 1) ≡ not (turns_west n c)
unfolding turns_west
turns-change First c = rw (next c) (other (remainder First c) (remainder-few First c))
turns-change Second c = rw (next c) (other (remainder Second c) (remainder-few Second c))

-- what one network permits in a column the other forbids
pub networks-exchanged : (c : ℕ) → turns_west Second c ≡ not (turns_west First c)
unfolding turns_west
networks-exchanged c = other (remainder First c) (remainder-few First c)
