-- What "the least such marking" says, of any account B of the bad nodes. Assumes nothing.
use Rattle.std.specs.Prelude.{◌≡◌, Bool, true, false, ℕ, ◌<◌}
use Rattle.mesh.specs.Nodes.{unsafe}

-- closed: the rules make no safe node of the mesh unsafe
pub record Closed (columns rows : ℕ) (B : ℕ → ℕ → Bool) : Type 0 where
  pub rests : (r c : ℕ) → r < rows → c < columns → B r c ≡ false → unsafe B r c ≡ false

-- nothing is bad beyond the mesh
pub record NoneBeyond (columns rows : ℕ) (B : ℕ → ℕ → Bool) : Type 0 where
  pub row : (r c : ℕ) → B r c ≡ true → r < rows
  pub column : (r c : ℕ) → B r c ≡ true → c < columns

-- every node that is bad in B is bad in Q
pub record Holds (B Q : ℕ → ℕ → Bool) : Type 0 where
  pub holds : (r c : ℕ) → B r c ≡ true → Q r c ≡ true
