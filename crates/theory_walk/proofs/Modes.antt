-- The modes of a walk, each with the number that falls. Assumes nothing.
use Rattle.std.proofs.Common.{Option, Some, ◌≡◌, true, false, List, ℕ, suc, ◌+◌, ◌-◌, ◌*◌, ◌≤◌, ◌<◌, arith, sum_by}
use Rattle.mesh.specs.declared.Heading.{Heading}
use Rattle.mesh.specs.declared.Heading.TheVariants.{West as W}
use Rattle.mesh.specs.Headings.{opposite}
use Rattle.mesh.specs.Blocks.{Block}
use Rattle.mesh.specs.Rules.{Trip}
use Rattle.theory_walk.proofs.Coordinates.{Sight, Off, To, not_own}
use Rattle.theory_walk.proofs.Crossing.{reach, far, near, far_column, Crosses}
use Rattle.theory_walk.proofs.Rules.{Across}
use Rattle.theory_walk.proofs.Turns.{Permits, Ready}
use Rattle.theory_walk.proofs.Lawful.{Goes}
use Rattle.theory_walk.proofs.Weights.{rest, detour}

module _ (t : Trip) (bs : List Block) where
  -- straight travel to the destination's row, in a column that permits NW and SW; k = 0 once there; g is at least the column distance
  pub record Approaching (a : Heading) (k g r c n : ℕ) : Type 0 where
    pub off : Off t r k a
    pub free : t.bad r c ≡ false
    pub turn : not_own t W c ≡ 0
    pub gap-east : t.C ≤ c + g
    pub gap-west : c ≤ t.C + g
    pub falls : g + k + sum_by (detour t a r c) bs < n

  -- one hop east of such a column; the numbers are those of the place after that hop
  pub record Shifting (a : Heading) (k g r c n : ℕ) : Type 0 where
    pub off : Off t r (suc k) a
    pub free : t.bad r (c - 1) ≡ false
    pub turn : not_own t W c ≡ 1
    pub one : 1 ≤ c
    pub gap-east : t.C + 1 ≤ c + g
    pub gap-west : c ≤ t.C + g + 1
    pub falls : g + suc k + sum_by (detour t a r (c - 1)) bs + 1 < n

  -- straight travel in the destination's row, x columns to the s
  pub record InRow (s : Heading) (x r c n : ℕ) (l : Option Heading) : Type 0 where
    pub here : r ≡ t.R
    pub to : To t c x s
    pub free : t.bad r c ≡ false
    pub turn : Permits t c l s
    pub stop : (j : ℕ) → Sight c 1 j s → t.bad r j ≡ true → Ready t c l s
    pub falls : x + sum_by (rest t s c) bs < n

  -- away from that row, beside the block b
  pub record Leaving (b : Block) (a : Heading) (k : ℕ) (s : Heading) (x r c n : ℕ) : Type 0 where
    pub crosses : Crosses t bs s b
    pub off : Off t r (suc k) a
    pub rows : k ≤ reach t a b
    pub to : To t c x s
    pub from : near t s b + 1 ≤ x
    pub till : x + not_own t s c ≤ near t s b + 2
    pub turn : Permits t c (Some a) s
    pub falls : x + 2 * reach t a b + 2 + sum_by (rest t s (far_column s b)) bs < n + suc k

  -- over or under it
  pub record Passing (b : Block) (a s : Heading) (x r c n : ℕ) : Type 0 where
    pub crosses : Crosses t bs s b
    pub off : Off t r (suc (reach t a b)) a
    pub to : To t c x s
    pub from : far t s b + not_own t s c ≤ x + 2
    pub till : x ≤ near t s b + not_own t s c
    pub falls : x + suc (reach t a b) + sum_by (rest t s (far_column s b)) bs < n

  -- back to the row, beyond it; k = 0 once there
  pub record Returning (b : Block) (a : Heading) (k : ℕ) (s : Heading) (x r c n : ℕ) : Type 0 where
    pub crosses : Crosses t bs s b
    pub off : Off t r k a
    pub rows : k ≤ reach t a b
    pub to : To t c x s
    pub turn : not_own t s c ≡ 0
    pub from : far t s b ≤ x + 2
    pub till : x + 1 ≤ far t s b
    pub falls : x + k + sum_by (rest t s (far_column s b)) bs < n

  -- the packet's mode, by its last hop
  pub data Mode (n r c : ℕ) : Option Heading → Type 0 where
    approaching : {a : Heading} {k g : ℕ} {l : Option Heading} → Across l W → Approaching a (suc k) g r c n → Mode n r c l
    approaching-on : {a : Heading} {k g : ℕ} → Approaching a (suc k) g r c n → Mode n r c (Some (opposite a))
    shifting : {a : Heading} {k g : ℕ} {l : Option Heading} → Across l W → Shifting a k g r c n → Mode n r c l
    in_row : {s : Heading} {x : ℕ} {l : Option Heading} → InRow s x r c n l → Mode n r c l
    leaving : {b : Block} {a s : Heading} {k x : ℕ} → Leaving b a k s x r c n → Mode n r c (Some a)
    passing : {b : Block} {a s : Heading} {x : ℕ} → Passing b a s x r c n → Mode n r c (Some s)
    returning : {b : Block} {a s : Heading} {k x : ℕ} → Returning b a (suc k) s x r c n → Mode n r c (Some (opposite a))

  -- a lawful hop after which the number is n
  abbrev pub Next : ℕ → ℕ → ℕ → Option Heading → Heading → Type 0
  Next n r c l h = Goes t (Mode n) r c l h

pub never-zero : {t : Trip} {bs : List Block} {r c : ℕ} {l : Option Heading} → Mode t bs 0 r c l → ⊥
never-zero (approaching x m) = omega arith
never-zero (approaching-on m) = omega arith
never-zero (shifting x m) = omega arith
never-zero (in_row m) = omega arith
never-zero (leaving m) = omega arith
never-zero (passing m) = omega arith
never-zero (returning m) = omega arith
