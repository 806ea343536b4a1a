-- Lawful routes, the walk by the hop rules, and the bound on its hops (document 01, "What demand 3 compares"). Assumes nothing.
use Rattle.std.specs.Prelude.{Bool, not, cond, ◌&&◌, ◌||◌, List, [], ◌∷◌, ℕ, zero, suc, ◌+◌, ◌-◌, ◌*◌, max, min, ltb, eqb}
use Rattle.mesh.specs.Headings.{Heading, W}
use Rattle.mesh.specs.Blocks.{Block}
use Rattle.mesh.specs.Rules.{Trip, blocked, at_destination, hop}
use Rattle.mesh.specs.Hops.{At, moved, lawful}

unfoldable pub arrived : Trip → At → Bool
arrived t p = at_destination t p.row p.column

-- a lawful route from p: each hop is lawful, and the last one ends at the destination
unfoldable pub lawful_route : Trip → At → List Heading → Bool
lawful_route t p [] = arrived t p
lawful_route t p (h ∷ hs) = lawful t p h && lawful_route t (moved h p) hs

unfoldable pub hop_at : Trip → At → Heading
hop_at t p = hop t p.row p.column p.last

-- the hops by the rules from p, until rule 1 applies; n are looked at, at the most
unfoldable pub walk : ℕ → Trip → At → List Heading
walk zero t p = []
walk (suc n) t p = let on = hop_at t p ∷ walk n t (moved (hop_at t p) p) in cond (arrived t p) [] on

-- shut in: the source's column is odd, on the second network even (NW and SW are forbidden there), its west neighbour is in a block,
-- and the destination is in another row or to the west
unfoldable pub shut_in : Trip → ℕ → ℕ → Bool
shut_in t r c = not (t.west c) && (blocked t W 1 r c && (not (eqb r t.R) || ltb t.C c))

-- meets the edge: the source is in column 0, NW and SW are forbidden there, and the destination is in another row. On the first network none does
unfoldable pub meets_edge : Trip → ℕ → ℕ → Bool
meets_edge t r c = not (t.west c) && (eqb c 0 && not (eqb r t.R))

-- the larger less the smaller
unfoldable pub distance : ℕ → ℕ → ℕ
distance a b = max a b - min a b

-- twice (width + height + 1), summed over the blocks
unfoldable pub detours : List Block → ℕ
detours [] = 0
detours (b ∷ bs) = 2 * (b.width + b.height + 1) + detours bs

-- the bound of demand 3 on the hops from (r, c)
unfoldable pub bound : Trip → List Block → ℕ → ℕ → ℕ
bound t bs r c = distance r t.R + distance c t.C + 2 + detours bs
