-- The bound on the detours round all blocks: their grown blocks have room on a mesh without its last row and its last two columns. Assumes nothing.
use Rattle.std.proofs.Common.{Bool, List, ℕ, ◌-◌, ◌*◌, ◌≤◌, arith}
use Rattle.mesh.specs.Blocks.{Block}
use Rattle.mesh.specs.Walk.{detours}
use Rattle.theory_blocks.specs.Obstacles.{Obstacles}
use Rattle.theory_blocks.proofs.Apart.{pairs-map}
use Rattle.theory_blocks.proofs.Area.{grown, apart-disjoint, sum, sum-at-most, area-fits, detours-area}

pub detours-bounded : {columns rows : ℕ} {B : ℕ → ℕ → Bool} {bs : List Block} → Obstacles columns rows B bs → detours bs ≤ (columns - 2) * (rows - 1)
unfolding grown
detours-bounded {columns} {rows} {B} {bs} O =
    let i = detours-area bs (λ b m. (O.walled b m).tall) in
    let j =
    area-fits (columns - 2) (rows - 1) bs
    (pairs-map bs (λ a b m n. apart-disjoint (O.fits a m) (O.fits b n)) O.apart)
    (λ x y. 1)
    (λ b m.
    let f = O.fits b m in
    record { high = omega arith; wide = omega arith; room = λ x y u. omega arith }) in
    let u =
    sum-at-most ((columns - 2) * 1) (λ x. sum (columns - 2) (λ y. 1)) (rows - 1)
    (λ x. sum-at-most 1 (λ y. 1) (columns - 2) (λ y. omega arith)) in
    omega arith
