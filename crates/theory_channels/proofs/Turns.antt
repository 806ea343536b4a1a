-- The permitted hops after the last one are those of the list. Assumes nothing.
use Rattle.std.proofs.Common.{Option, Some, None, ◌≡◌, refl, inl, inr, Bool, true, ℕ}
use Rattle.std.proofs.lemmas.Bool.{cases_Bool}
use Rattle.mesh.specs.declared.Heading.{Heading}
use Rattle.mesh.specs.declared.Heading.TheVariants.{East as E, North as N, South as S, West as W}
use Rattle.mesh.specs.Headings.{opposite, same}
use Rattle.mesh.specs.Turns.{breaks, turn_breaks, hop_breaks, reverses, turns_back, may_turn}
use Rattle.mesh.proofs.Bools.{true-false}
use Rattle.mesh.proofs.Hops.{straight-on}
use Rattle.theory_channels.specs.Claims.{Permitted, first, straight, WN, WS, NE, SE, NW, SW, EN, ES}

module _ (west : ℕ → Bool) (c : ℕ) where
  pub permitted-told : (l : Option Heading) (h : Heading) → may_turn west c l h ≡ true → Permitted west c l h
  unfolding may_turn turns_back hop_breaks reverses turn_breaks breaks same opposite
  permitted-told None h t = first
  permitted-told (Some E) E t = straight
  permitted-told (Some E) N t = elim (cases_Bool (west c)) [ inl e ↦ true-false t (rw e) | inr e ↦ EN e ]
  permitted-told (Some E) S t = elim (cases_Bool (west c)) [ inl e ↦ true-false t (rw e) | inr e ↦ ES e ]
  permitted-told (Some E) W t = true-false t refl
  permitted-told (Some N) E t = NE
  permitted-told (Some N) N t = straight
  permitted-told (Some N) S t = true-false t refl
  permitted-told (Some N) W t = elim (cases_Bool (west c)) [ inl e ↦ NW e | inr e ↦ true-false t (rw e) ]
  permitted-told (Some S) E t = SE
  permitted-told (Some S) N t = true-false t refl
  permitted-told (Some S) S t = straight
  permitted-told (Some S) W t = elim (cases_Bool (west c)) [ inl e ↦ SW e | inr e ↦ true-false t (rw e) ]
  permitted-told (Some W) E t = true-false t refl
  permitted-told (Some W) N t = WN
  permitted-told (Some W) S t = WS
  permitted-told (Some W) W t = straight

  pub permitted-true : {l : Option Heading} {h : Heading} → Permitted west c l h → may_turn west c l h ≡ true
  unfolding may_turn turns_back hop_breaks reverses turn_breaks breaks same opposite
  permitted-true first = refl
  permitted-true {h = h} straight = straight-on west c h
  permitted-true WN = refl
  permitted-true WS = refl
  permitted-true NE = refl
  permitted-true SE = refl
  permitted-true (NW e) = rw e
  permitted-true (SW e) = rw e
  permitted-true (EN e) = rw e
  permitted-true (ES e) = rw e
