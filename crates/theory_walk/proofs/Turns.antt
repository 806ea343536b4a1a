-- Permitted turns, of a side and an upright heading. Assumes nothing.
use Rattle.std.proofs.Common.{Option, Some, None, ◌≡◌, refl, true, false, ℕ}
use Rattle.std.proofs.lemmas.Bool.{not-true}
use Rattle.mesh.specs.declared.Heading.{Heading}
use Rattle.mesh.specs.declared.Heading.TheVariants.{East as E, North as N, South as S, West as W}
use Rattle.mesh.specs.Headings.{opposite, same}
use Rattle.mesh.specs.Turns.{breaks, turn_breaks, hop_breaks, reverses, turns_back, may_turn}
use Rattle.mesh.specs.Rules.{Trip, own, again}
use Rattle.mesh.proofs.Bools.{true-false}
use Rattle.mesh.proofs.Hops.{straight-on}
use Rattle.theory_walk.proofs.Bools.{bit-zero, bit-one}
use Rattle.theory_walk.proofs.Coordinates.{Upright, up, down, Level, to-east, to-west, not_own}
use Rattle.theory_walk.proofs.Rules.{Across, first, went-east, went-west}

-- a hop to the h in column c after l makes no forbidden turn
abbrev pub Permits : Trip → ℕ → Option Heading → Heading → Type 0
Permits t c l h = may_turn t.west c l h ≡ true

-- a packet in the destination's row that is stopped may hop on or away, and then to the side
pub record Ready (t : Trip) (c : ℕ) (l : Option Heading) (s : Heading) : Type 0 where
  pub away : Permits t c l (again l)
  pub back : Permits t c (Some (again l)) s

pub upright-again : (l : Option Heading) → Upright (again l)
unfolding again
upright-again None = up
upright-again (Some E) = up
upright-again (Some N) = up
upright-again (Some S) = down
upright-again (Some W) = up

module _ (t : Trip) (c : ℕ) where
  own_at : (s : Heading) → not_own t s c ≡ 0 → own t s c ≡ true
  unfolding not_own
  own_at s e = bit-zero (own t s c) e

  pub first-hop : (h : Heading) → Permits t c None h
  unfolding may_turn turns_back hop_breaks
  first-hop h = refl

  pub straight : (h : Heading) → Permits t c (Some h) h
  straight = straight-on t.west c

  pub across-on : {l : Option Heading} {s : Heading} → Across l s → Permits t c l s
  across-on first = first-hop W
  across-on went-east = straight E
  across-on went-west = straight W

  pub turn_in : {s a : Heading} → Level s → Upright a → not_own t s c ≡ 0 → Permits t c (Some s) a
  unfolding may_turn turns_back hop_breaks reverses turn_breaks breaks same opposite own
  turn_in to-east up e = rw (not-true (t.west c) (own_at E e))
  turn_in to-east down e = rw (not-true (t.west c) (own_at E e))
  turn_in to-west up e = refl
  turn_in to-west down e = refl

  pub across-in : {l : Option Heading} {s a : Heading} → Across l s → Upright a → not_own t s c ≡ 0 → Permits t c l a
  across-in {a = a} first v e = first-hop a
  across-in went-east v e = turn_in to-east v e
  across-in went-west v e = turn_in to-west v e

  pub turn-east : {a : Heading} → Upright a → Permits t c (Some a) E
  unfolding may_turn turns_back hop_breaks reverses turn_breaks breaks same opposite
  turn-east up = refl
  turn-east down = refl

  pub turn-out : {s a : Heading} → Upright a → Level s → not_own t s c ≡ 0 → Permits t c (Some a) s
  unfolding may_turn turns_back hop_breaks reverses turn_breaks breaks same opposite own
  turn-out v to-east e = turn-east v
  turn-out up to-west e = rw (own_at W e)
  turn-out down to-west e = rw (own_at W e)

  -- a packet that came up or down is ready where it may turn to the side
  pub ready-upright : {s a : Heading} → Upright a → Permits t c (Some a) s → Ready t c (Some a) s
  unfolding again
  ready-upright up f = record { away = straight N; back = f }
  ready-upright down f = record { away = straight S; back = f }

  pub ready : {s : Heading} (l : Option Heading) → Level s → not_own t s c ≡ 0 → Permits t c l s → Ready t c l s
  unfolding again may_turn turns_back hop_breaks reverses turn_breaks breaks same opposite
  ready None v e f = record { away = refl; back = turn-out up v e }
  ready (Some E) to-east e f = record { away = turn_in to-east up e; back = turn-east up }
  ready (Some E) to-west e f = true-false f refl
  ready (Some N) v e f = ready-upright up f
  ready (Some S) v e f = ready-upright down f
  ready (Some W) v e f = record { away = refl; back = turn-out up v e }

  -- NW in a column where it is not
  pub no-turn-west : not_own t W c ≡ 1 → may_turn t.west c (Some N) W ≡ false
  unfolding may_turn turns_back hop_breaks reverses turn_breaks breaks same opposite not_own own
  no-turn-west e = rw (bit-one (t.west c) e)
