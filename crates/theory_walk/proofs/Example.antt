-- The premises can be met: one block anywhere on a mesh with room for its ring, and a walk past it with the turns of either parity. Assumes nothing.
use Rattle.std.proofs.Common.{◌≡◌, refl, sym, subst, Bool, not, [], ◌∷◌, ℕ, ◌+◌, ◌<◌, arith}
use Rattle.std.proofs.Math.Bool.{and-false}
use mathlib.Core.List.Memᴰ
use Rattle.mesh.specs.Nodes.{ahead}
use Rattle.mesh.specs.Blocks.{Block, reaches}
use Rattle.mesh.specs.Rules.{Trip, blocked}
use Rattle.mesh.specs.Hops.{fresh}
use Rattle.mesh.specs.Walk.{walk, shut_in, meets_edge, distance, detours, bound}
use Rattle.mesh.specs.Mesh.{place}
use Rattle.theory_blocks.specs.Blocks.{Fits}
use Rattle.theory_blocks.specs.Obstacles.{Listed, Walled, none, more, Obstacles}
use Rattle.theory_blocks.proofs.Rings.{reaches-told, reaches-true, reaches-false}
use Rattle.theory_walk.specs.Course.{Course}
use Rattle.theory_walk.specs.Claims.{Arrives}
use Rattle.theory_walk.proofs.Theorems.{walk-arrives}

module _ (b : Block) where
  only : (a : Block) → Listed a (b ∷ []) → b ≡ a
  only a (Memᴰ.head e) = sym e
  only a (Memᴰ.tail m) = absurd (Memᴰ.not-nil m)

module _ (columns rows : ℕ) (b : Block) (tall : 0 < b.height) (wide : 0 < b.width) (fits : Fits columns rows b) where
  one_block : Obstacles columns rows (reaches 0 0 b) (b ∷ [])
  one_block = record {
    walled = λ a m. subst (Walled (reaches 0 0 b)) (only b a m) (record {
      tall = tall;
      wide = wide;
      inside = λ r c i. reaches-true 0 0 b r c i;
      ring = λ r c o. reaches-false 0 0 b r c o.outside;
    });
    in-block = λ r c e. record { block = b; listed = Memᴰ.head refl; within = reaches-told 0 0 b r c e };
    apart = more (λ a m. absurd (Memᴰ.not-nil m)) none;
    fits = λ a m. subst (Fits columns rows) (only b a m) fits;
  }

-- map A of document 01: rows 3 and 4, columns 4 and 5
unfoldable pub square : Block
square = record { row = 3; column = 4; height = 2; width = 2 }

-- to (6, 5)
unfoldable pub past : (ℕ → Bool) → Trip
past west = record { columns = 10; rows = 8; bad = reaches 0 0 square; west = west; R = 6; C = 5 }

module _ (west : ℕ → Bool) (changes : (c : ℕ) → west (c + 1) ≡ not (west c)) where
  course : Course (past west) (square ∷ [])
  unfolding past square
  course = record {
    obstacles = one_block 10 8 square (omega arith) (omega arith) (omega arith);
    changes = changes;
    row = omega arith;
    column = omega arith;
    clear = λ c h k. reaches-false 0 0 square 6 c (λ i. omega arith);
  }

  -- from (1, 5)
  pub example : Arrives (past west) (square ∷ []) 1 5 (walk 1000 (past west) (fresh (place 1 5)))
  unfolding past square bound distance detours shut_in meets_edge reaches blocked ahead
  example =
      walk-arrives course 1 5
      (record { place = record { row = omega arith; column = omega arith; free = refl }; not-shut = and-false (not (west 5)); off-edge = and-false (not (west 5)) })
      1000
      (omega arith)
