-- The phases differ. Assumes nothing.
use Rattle.std.proofs.Common.{◌≡◌, ℕ, arith}
use Rattle.theory_sheet.specs.declared.Phase.{Phase}
use Rattle.theory_sheet.specs.declared.Phase.TheVariants.{Start, Faults, Sends}

module _ {A : Type 0} where
  differ : ◌≡◌ {A = ℕ} 0 1 → A
  differ z = absurd (omega arith)

  module _ {p : Phase} where
    pub start-faults : p ≡ Start → p ≡ Faults → A
    start-faults e f = differ cc

    pub start-sends : p ≡ Start → p ≡ Sends → A
    start-sends e f = differ cc

    pub faults-sends : p ≡ Faults → p ≡ Sends → A
    faults-sends e f = differ cc
