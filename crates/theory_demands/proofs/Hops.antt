-- The hops of a request that refusals 1 to 9 let pass. Assumes nothing.
use Rattle.std.proofs.Common.{◌≡◌, List, ℕ, zero, suc, ◌≤◌, ◌<◌, arith, length}
use Rattle.std.proofs.lemmas.Bool.{cond_both}
use Rattle.mesh.specs.declared.Heading.{Heading}
use Rattle.mesh.specs.declared.Network.{Network}
use Rattle.mesh.specs.declared.Place.{Place}
use Rattle.mesh.specs.Mesh.{mesh}
use Rattle.mesh.specs.Rounds.{marked}
use Rattle.mesh.specs.Blocks.{Block, blocks}
use Rattle.mesh.specs.Rules.{Trip}
use Rattle.mesh.specs.Hops.{At, moved, fresh}
use Rattle.mesh.specs.Walk.{arrived, hop_at, walk, bound}
use Rattle.mesh.specs.Routing.{hops_of}
use Rattle.theory_judging.specs.Claims.{trip_to}
use Rattle.theory_walk.specs.Claims.{Arrives, reached, OnTheWay}
use Rattle.theory_walk.proofs.Theorems.{walk-arrives, same-walk, on-the-way}
use Rattle.theory_demands.specs.Demand3.{ByRules, rule-1, hop-on, hops}
use Rattle.theory_demands.proofs.Requests.{Clear, course-of, served-of}

-- a walk that ends before its fuel is all of the hops by the rules
ends-by-rules : (t : Trip) (n : ℕ) (p : At) → length (walk n t p) < n → ByRules t p (walk n t p)
unfolding walk
ends-by-rules t zero p = λ h. absurd (omega arith)
ends-by-rules t (suc n) p =
    cond_both (arrived t p) _ _ (λ hs. length hs < suc n → ByRules t p hs)
    (λ e h. rule-1 e)
    (λ e h. hop-on e (ends-by-rules t n (moved (hop_at t p) p) (omega arith)))

module _ {network : Network} {columns rows : ℕ} {map : List ℕ} {s d : Place} (clear : Clear network columns rows map s d) where
  abbrev hs : List Heading
  hs = hops network columns rows map s d

  abbrev t : Trip
  t = trip_to network columns rows map d

  abbrev bs : List Block
  bs = blocks (marked (mesh columns rows map))

  pub arrives : Arrives t bs s.row.0 s.column.0 hs
  unfolding hops_of
  arrives = walk-arrives (course-of clear.passed network) s.row.0 s.column.0 (served-of clear) _ (omega arith)

  pub hops-by-rules : ByRules t (fresh s) hs
  unfolding hops_of
  hops-by-rules = let h = arrives.hops in ends-by-rules t _ (fresh s) (omega arith)

  pub no-other-hops : (n : ℕ) → bound t bs s.row.0 s.column.0 < n → walk n t (fresh s) ≡ hs
  unfolding hops_of
  no-other-hops n h = same-walk (course-of clear.passed network) s.row.0 s.column.0 (served-of clear) n _ h (omega arith)

  -- after k of them
  pub way : (k : ℕ) → k ≤ length hs → OnTheWay t hs k (reached k t (fresh s))
  unfolding hops_of
  way k h = on-the-way (course-of clear.passed network) s.row.0 s.column.0 (served-of clear) _ (omega arith) k h
