-- A list of sends, four numbers each (document 02, E2). Assumes nothing.
use Rattle.std.specs.Prelude.{Bool, not, List, [], ◌∷◌, ℕ, ◌%◌, eqb, length}
use Rattle.mesh.specs.Mesh.{place}
use Rattle.theory_batch.specs.declared.Send.{Send}

-- source row and column, destination row and column
abbrev pub send : ℕ → ℕ → ℕ → ℕ → Send
send r c R C = record { source = place r c; destination = place R C }

-- the sends of a list
unfoldable pub sends_of : List ℕ → List Send
sends_of (r ∷ c ∷ R ∷ C ∷ xs) = send r c R C ∷ sends_of xs
sends_of (r ∷ c ∷ R ∷ []) = []
sends_of (r ∷ c ∷ []) = []
sends_of (r ∷ []) = []
sends_of [] = []

-- the list isn't whole sends
abbrev pub uneven : List ℕ → Bool
uneven sends = not (eqb (length sends % 4) 0)
