-- Sums over the blocks of a list. Assumes nothing.
use Rattle.std.proofs.Common.{◌≡◌, refl, List, [], ◌∷◌, ℕ, ◌+◌, ◌*◌, ◌≤◌, arith, sum_by}
use Rattle.std.proofs.lemmas.List.Recursion.{is_sum_by}
use Rattle.std.proofs.lemmas.List.Sums.{sum_by-cons, sum_by-le-sum_by}
use mathlib.Core.List.Memᴰ
use Rattle.mesh.specs.Blocks.{Block}
use Rattle.mesh.specs.Walk.{detours}
use Rattle.theory_blocks.specs.Obstacles.{Listed}

-- no term is greater, and one listed block's is less by k
pub sum_less : (f g : Block → ℕ) (k : ℕ) → ((b : Block) → f b ≤ g b) → (a : Block) → f a + k ≤ g a → (bs : List Block) → Listed a bs →
    sum_by f bs + k ≤ sum_by g bs
sum_less f g k h a d [] x' = elim x' [ ]
sum_less f g k h a d (b ∷ bs) (Memᴰ.head e) =
    let i = sum_by-le-sum_by f g bs h in
    let j : f b + k ≤ g b = rw e at d in
    rw (sum_by-cons f b bs, sum_by-cons g b bs) (omega arith)
sum_less f g k h a d (b ∷ bs) (Memᴰ.tail m) =
    let i = sum_less f g k h a d bs m in
    let j = h b in
    rw (sum_by-cons f b bs, sum_by-cons g b bs) (omega arith)

pub detours-sum : (bs : List Block) → detours bs ≡ sum_by (λ b. 2 * (b.width + b.height + 1)) bs
unfolding detours
detours-sum = is_sum_by detours (λ b. 2 * (b.width + b.height + 1)) refl (λ b bs. refl)
