-- By lowest row, then lowest column: which of two boxes is earlier, and that this is an order. Assumes nothing.
use Rattle.std.proofs.Common.{◌≡◌, refl, sym, inl, inr, Bool, true, false, ◌&&◌, ◌≤◌, ◌<◌, arith, ltb-true, ltb-false, lt-ltb, eqb-true, eq-eqb, ltb, eqb}
use Rattle.std.proofs.lemmas.Bool.{cases_Bool, and_parts, or_cases, or_parts}
use Rattle.mesh.proofs.Bools.{and_right}
use Rattle.theory_boxes.specs.Boxes.{Box, earlier}

pub record Before (a b : Box) : Type 0 where
  pub rows : a.low-row ≤ b.low-row
  pub columns : a.low-row ≡ b.low-row → a.low_column < b.low_column

-- they do not begin at the same node
pub record Differ (a b : Box) : Type 0 where
  pub differ : a.low-row ≡ b.low-row → a.low_column ≡ b.low_column → ⊥

module _ (a b : Box) where
  -- the parts of the test
  abbrev pub lower : Bool
  lower = ltb a.low-row b.low-row

  abbrev pub level : Bool
  level = eqb a.low-row b.low-row

  abbrev pub further-west : Bool
  further-west = ltb a.low_column b.low_column

  pub earlier-told : earlier a b ≡ true → Before a b
  unfolding earlier
  earlier-told e =
      elim (or_cases lower (level && further-west) e) [
        | inl h ↦ record { rows = omega (arith, ltb-true); columns = λ s. absurd (omega (arith, ltb-true)) }
        | inr h ↦
            let (p, q) = and_parts level _ h in
            record { rows = omega (arith, eqb-true); columns = λ s. omega (arith, ltb-true) }
      ]

  pub earlier-true : Before a b → earlier a b ≡ true
  unfolding earlier
  earlier-true p =
      elim (cases_Bool lower) [
        | inl e ↦ rw e
        | inr e ↦ let s : a.low-row ≡ b.low-row = omega (arith, ltb-false, p.rows) in rw (e, eq-eqb _ _ s, lt-ltb _ _ (p.columns s))
      ]

  -- if it is not the one it is the other
  pub later-told : earlier a b ≡ false → Differ a b → Before b a
  unfolding earlier
  later-told e d =
      let (p, q) = or_parts lower (level && further-west) e in
      record {
        rows = omega (arith, ltb-false);
        columns = λ s. let r = and_right level further-west (eq-eqb _ _ (sym s)) q in omega (arith, ltb-false, d.differ (sym s));
      }

pub before-trans : {a b c : Box} → Before a b → Before b c → Before a c
before-trans p q = record { rows = omega arith; columns = λ s. omega (arith, p.columns (omega arith), q.columns (omega arith)) }

pub not_itself : {a : Box} → Before a a → ⊥
not_itself p = omega (arith, p.columns refl)
