-- The straight legs of a route (document 02, E3): neighbouring legs differ in direction. Assumes nothing.
use Rattle.std.specs.Prelude.{cond, List, [], ◌∷◌, ◌++◌, ℕ, suc, replicate}
use Rattle.mesh.specs.declared.Heading.{Heading}
use Rattle.mesh.specs.Headings.{same}

-- a straight leg
pub record Leg : Type 0 where
  pub heading : Heading
  pub length : ℕ

abbrev pub leg : Heading → ℕ → Leg
leg h n = record { heading = h; length = n }

-- the legs with one hop more before them
unfoldable pub hop_before : Heading → List Leg → List Leg
hop_before h [] = leg h 1 ∷ []
hop_before h (l ∷ ls) = cond (same h l.heading) (leg h (suc l.length) ∷ ls) (leg h 1 ∷ l ∷ ls)

-- the legs of a route
unfoldable pub legs : List Heading → List Leg
legs [] = []
legs (h ∷ hs) = hop_before h (legs hs)

-- the hops of legs
unfoldable pub hops : List Leg → List Heading
hops [] = []
hops (l ∷ ls) = replicate l.length l.heading ++ hops ls
