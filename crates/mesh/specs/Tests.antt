-- Tests in a row: they are made in the order listed, and the first that holds is the answer (document 01, "The four operations").
-- Assumes nothing.
use Rattle.std.specs.Prelude.{Bool, cond, List, [], ◌∷◌, ℕ}

-- a test, and the number that is answered where it holds
pub record Test : Type 0 where
  pub holds : Bool
  pub number : ℕ

infix 70 ◌gives◌
abbrev pub ◌gives◌ : Bool → ℕ → Test
b gives n = record { holds = b; number = n }

-- the number of the first test that holds; 0 where none does
unfoldable pub first : List Test → ℕ
first [] = 0
first (t ∷ ts) = let rest = first ts in cond t.holds t.number rest
