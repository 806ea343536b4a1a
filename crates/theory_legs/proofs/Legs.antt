-- A route is its legs: they have its hops, are straight runs, and no other straight runs have these hops. Assumes nothing.
use Rattle.std.proofs.Common.{Option, Some, None, ◌≡◌, refl, ap, sym, ◌∙◌, inl, inr, false, List, [], ◌∷◌, ◌++◌, ℕ, zero, suc, ◌≤◌, arith, replicate}
use Rattle.std.proofs.lemmas.Bool.{cases_Bool}
use Rattle.mesh.specs.declared.Heading.{Heading}
use Rattle.mesh.specs.Headings.{same, last_is}
use Rattle.mesh.proofs.Headings.{same-heading, same_self}
use Rattle.theory_legs.specs.Legs.{Leg, leg, hop_before, legs, hops}
use Rattle.theory_legs.specs.Claims.{Straight}

-- The hops of the legs are the route

hop-before-hops : (h : Heading) (ls : List Leg) → hops (hop_before h ls) ≡ h ∷ hops ls
unfolding hop_before hops
hop-before-hops h [] = refl
hop-before-hops h (l ∷ ls) =
    elim (cases_Bool (same h l.heading)) [
      | inl e ↦ rw (e, same-heading h l.heading e)
      | inr e ↦ rw e
    ]

pub hops-of-legs : (hs : List Heading) → hops (legs hs) ≡ hs
unfolding legs hops
hops-of-legs [] = refl
hops-of-legs (h ∷ hs) = hop-before-hops h (legs hs) ∙ ap (λ gs. h ∷ gs) (hops-of-legs hs)

-- They are straight runs

hop-before-straight : (h : Heading) (ls : List Leg) → Straight None ls → Straight None (hop_before h ls)
unfolding hop_before Straight last_is
hop-before-straight h [] s = (refl, omega arith, tt)
hop-before-straight h (l ∷ ls) s =
    elim (cases_Bool (same h l.heading)) [
      | inl e ↦ rw e (refl, omega arith, rw (same-heading h l.heading e) s.2)
      | inr e ↦ rw e (refl, omega arith, (e, s.1, s.2))
    ]

pub legs-straight : (hs : List Heading) → Straight None (legs hs)
unfolding legs Straight
legs-straight [] = tt
legs-straight (h ∷ hs) = hop-before-straight h (legs hs) (legs-straight hs)

-- Straight runs are the legs of their hops

one-before : (h : Heading) (ls : List Leg) → Straight (Some h) ls → hop_before h ls ≡ leg h 1 ∷ ls
unfolding hop_before Straight last_is
one-before h [] s = refl
one-before h (l ∷ ls) s = rw s.0

pub legs-run : (n : ℕ) (h : Heading) (hs : List Heading) → Straight (Some h) (legs hs) → legs (replicate (suc n) h ++ hs) ≡ leg h (suc n) ∷ legs hs
unfolding legs hop_before
legs-run zero h hs s = one-before h (legs hs) s
legs-run (suc n) h hs s = rw (legs-run n h hs s, same_self h)

run-before : (l : Leg) (ls : List Leg) → 1 ≤ l.length → Straight (Some l.heading) ls → legs (hops ls) ≡ ls → legs (hops (l ∷ ls)) ≡ l ∷ ls
unfolding hops
run-before l ls h s others = run l.length h
  where
    run : (n : ℕ) → 1 ≤ n → legs (replicate n l.heading ++ hops ls) ≡ leg l.heading n ∷ ls
    run zero h = absurd (omega arith)
    run (suc n) h = legs-run n l.heading (hops ls) (rw others s) ∙ rw others

pub legs-of-hops : (before : Option Heading) (ls : List Leg) → Straight before ls → legs (hops ls) ≡ ls
unfolding legs hops Straight
legs-of-hops before [] s = refl
legs-of-hops before (l ∷ ls) s = run-before l ls s.1 s.2 (legs-of-hops (Some l.heading) ls s.2)

pub legs-only : (hs : List Heading) (ls : List Leg) → Straight None ls → hops ls ≡ hs → ls ≡ legs hs
legs-only hs ls s e = sym (legs-of-hops None ls s) ∙ ap legs e

-- a hop in another direction begins another leg
pub turn-straight : (h g : Heading) (hs : List Heading) → same h g ≡ false → Straight (Some h) (legs (g ∷ hs))
unfolding legs hop_before Straight last_is
turn-straight h g hs e = turned (legs hs) (hop-before-straight g (legs hs) (legs-straight hs))
  where
    turned : (ls : List Leg) → Straight None (hop_before g ls) → Straight (Some h) (hop_before g ls)
    turned [] s = (e, s.1, s.2)
    turned (l ∷ ls) s =
        elim (cases_Bool (same g l.heading)) [
          | inl f ↦ let t = rw f at s in rw f (e, t.1, t.2)
          | inr f ↦ let t = rw f at s in rw f (e, t.1, t.2)
        ]
