-- Where a sheet is opened to its sends and the run goes on, its sends have begun. Assumes nothing.
use Rattle.std.proofs.Common.{◌≡◌, refl, inl, inr, false, ℕ}
use Rattle.mesh.proofs.Bools.{value, true-false}
use Rattle.theory_sheet.specs.declared.Phase.{Phase}
use Rattle.theory_sheet.specs.declared.Phase.TheVariants.{Start, Faults, Sends}
use Rattle.theory_sheet.specs.Sheet.{State, is_misplaced, opening}

in-phase : (p : Phase) (n : ℕ) (t : State) → t.phase ≡ p → (opening p n t).ends ≡ false → (opening p n t).next.phase ≡ Sends
unfolding opening
in-phase Start n t is-p on = true-false refl on
in-phase Faults n t is-p on =
    elim (value (is_misplaced t)) [ inl e ↦ true-false refl (rw e at on) | inr e ↦ rw e ]
in-phase Sends n t is-p on = is-p

pub opened-sends : (n : ℕ) (t : State) → (opening t.phase n t).ends ≡ false → (opening t.phase n t).next.phase ≡ Sends
opened-sends n t = in-phase t.phase n t refl
