-- A refusal beside other answers. Assumes nothing.
use Rattle.std.specs.Prelude.{◌≡◌, ℕ, ◌<◌}
use Rattle.mesh.specs.Numbers.{refusal_code}

-- x is 65,536 plus a number that the error converts to, which is below 65,536 as every refusal's is
abbrev pub Coded : (ℕ → Type 0) → ℕ → Type 0
Coded converts x = (k : ℕ) × converts k × (k < 65536 → x ≡ refusal_code k)
