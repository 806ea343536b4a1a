-- The code of a letter's direction, without a jump. Assumes nothing.
use Rattle.std.specs.Prelude.{◌≡◌, ℕ}
use Rattle.mesh.specs.declared.Heading.{Heading}
use Rattle.mesh.specs.Headings.{letter, code}

-- k is the code of the direction whose letter x is, if it is one
pub record Codes (x k : ℕ) : Type 0 where
  pub coded : (h : Heading) → x ≡ letter h → k ≡ code h
