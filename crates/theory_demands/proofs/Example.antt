-- The premise of demand 3 can be met: it is by every case that is a route, on either network. Assumes nothing.
use Rattle.std.proofs.Common.{Bool, true, false, ◌&&◌, List, [], ◌∷◌, ℕ, zero, suc, ◌<◌, arith, T, eqb, eqb→eq, length, get_or, replicate}
use Prim.Native.String.{String}
use Rattle.mesh.specs.declared.Network.{Network}
use Rattle.mesh.specs.declared.Network.TheVariants.{First, Second}
use Rattle.mesh.specs.Cases.{fault_map, Case, routes, place, refusal, holds, all_hold, A, starred, starred-hold, second, second-hold}
use Rattle.theory_demands.specs.Demand3.{Demand3}
use Rattle.theory_demands.proofs.Routes.{served-clear}
use Rattle.theory_demands.proofs.Theorems.{demand-3}

both : (a b : Bool) → T (a && b) → T a × T b
both true b t = (tt, t)
both false b t = absurd t

module _ (n : Network) where
  each_holds : (cases : List Case) → T (all_hold n cases) → (k : ℕ) (c : Case) → k < length cases → T (holds n (get_or cases k c))
  unfolding all_hold
  each_holds [] t k c h = absurd (omega arith)
  each_holds (x ∷ xs) t zero c h = (both (holds n x) (all_hold n xs) t).0
  each_holds (x ∷ xs) t (suc k) c h = each_holds xs (both (holds n x) (all_hold n xs) t).1 k c (omega arith)

  pub case-served : (faults : List (ℕ × ℕ)) (s d : ℕ × ℕ) (expect : String) → T (holds n (routes faults s d expect)) →
      Demand3 n 10 8 (fault_map faults) (place s) (place d)
  unfolding holds refusal
  case-served faults s d expect t =
      let h = eqb→eq (refusal n faults s d) 0 (both (eqb (refusal n faults s d) 0) _ t).0 in
      demand-3 n 10 8 (fault_map faults) (place s) (place d) (served-clear n 10 8 (fault_map faults) (place s) (place d) (replicate 100 0) h)

-- map A, (1, 5) to (6, 5), on the first network: case number 5, counted from 0
pub example : Demand3 First 10 8 (fault_map A) (place (1, 5)) (place (6, 5))
unfolding starred
example =
    let c = routes A (1, 5) (6, 5) "WNWWNNNNEEE" in
    case-served First A (1, 5) (6, 5) "WNWWNNNNEEE" (each_holds First starred starred-hold 5 c (omega arith))

-- the same on the second network: its case number 0
pub example-second : Demand3 Second 10 8 (fault_map A) (place (1, 5)) (place (6, 5))
unfolding second
example-second =
    let c = routes A (1, 5) (6, 5) "NWWNNNNEE" in
    case-served Second A (1, 5) (6, 5) "NWWNNNNEE" (each_holds Second second second-hold 0 c (omega arith))

-- map A, (1, 5) to (5, 4), on the ring, in the row above the block: case number 12
pub beside-block : Demand3 First 10 8 (fault_map A) (place (1, 5)) (place (5, 4))
unfolding starred
beside-block =
    let c = routes A (1, 5) (5, 4) "WNWWNNNEE" in
    case-served First A (1, 5) (5, 4) "WNWWNNNEE" (each_holds First starred starred-hold 12 c (omega arith))
