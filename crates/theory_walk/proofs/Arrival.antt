-- Each hop keeps a mode and lowers its number, so a walk arrives. Assumes nothing.
use Rattle.std.proofs.Common.{Option, ◌≡◌, true, false, List, ℕ, zero, suc, ◌≤◌, ◌<◌, arith, eq-eqb, length}
use Rattle.std.proofs.lemmas.Bool.{and_from, cond_both}
use Rattle.mesh.specs.declared.Heading.{Heading}
use Rattle.mesh.specs.Blocks.{Block}
use Rattle.mesh.specs.Rules.{Trip, at_destination, hop}
use Rattle.mesh.specs.Hops.{At, moved}
use Rattle.mesh.specs.Walk.{arrived, lawful_route, hop_at, walk}
use Rattle.mesh.proofs.Bools.{true-false}
use Rattle.theory_walk.specs.Course.{Course}
use Rattle.theory_walk.proofs.Bools.{le-by-contradiction}
use Rattle.theory_walk.proofs.Coordinates.{to-here}
use Rattle.theory_walk.proofs.Modes.{Mode, approaching, approaching-on, shifting, in_row, leaving, passing, returning, Next, never-zero}
use Rattle.theory_walk.proofs.Round.{returning-step, passing_step, leaving-step}
use Rattle.theory_walk.proofs.InRow.{in-row-step}
use Rattle.theory_walk.proofs.Approach.{approaching-step, approaching-on-step, shifting-step}

not_there : (t : Trip) (p : At) → arrived t p ≡ false → p.row ≡ t.R → p.column ≡ t.C → ⊥
unfolding arrived at_destination
not_there t p e f g = true-false {b = arrived t p} (rw (eq-eqb _ _ f, eq-eqb _ _ g)) e

module _ {t : Trip} {bs : List Block} (course : Course t bs) where
  step : {n r c : ℕ} {l : Option Heading} → (r ≡ t.R → c ≡ t.C → ⊥) → Mode t bs (suc n) r c l → Next t bs n r c l (hop t r c l)
  step new (approaching x m) = approaching-step course x m
  step new (approaching-on m) = approaching-on-step course m
  step new (shifting x m) = shifting-step course x m
  step new (in_row m) = in-row-step course (le-by-contradiction (λ no. new m.here (to-here m.to (omega arith)))) m
  step new (leaving m) = leaving-step course m
  step new (passing m) = passing_step course m
  step new (returning m) = returning-step course m

  pub mode-arrives : (n m : ℕ) (p : At) → n ≤ m → Mode t bs n p.row p.column p.last →
      (lawful_route t p (walk m t p) ≡ true) × (length (walk m t p) < n)
  unfolding walk lawful_route hop_at moved
  mode-arrives zero m p h i = absurd (never-zero i)
  mode-arrives (suc n) zero p h i = absurd (omega arith)
  mode-arrives (suc n) (suc m) p h i =
      cond_both (arrived t p) _ _ (λ hs. (lawful_route t p hs ≡ true) × (length hs < suc n))
      (λ e. (e, omega arith))
      (λ e.
      let g = step (not_there t p e) i in
      let next = mode-arrives n m (moved (hop_at t p) p) (omega arith) g.then in
      (and_from _ _ g.lawfully next.0, omega arith))
