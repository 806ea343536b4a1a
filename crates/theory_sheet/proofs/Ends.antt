-- The end of a sheet, by what the reader holds: where the run is over nothing, of an unfinished line that it is bad. Assumes nothing.
use Rattle.std.proofs.Common.{◌≡◌, refl, true, false, List, [], ◌∷◌, ℕ, ◌<◌, arith, length}
use Rattle.sheet_prints.specs.Prints.{line, line_word}
use Rattle.theory_sheet.specs.Sheet.{State, at_end}
use Rattle.theory_sheet.specs.Reader.{Reader, last_line, finish}

last-held : (n : ℕ) (t : State) (held : List ℕ) → 0 < length held → last_line n t held ≡ line line_word n
unfolding last_line
last-held n t [] some = absurd (omega arith)
last-held n t (x ∷ xs) some = refl

last_none : (n : ℕ) (t : State) (held : List ℕ) → length held ≡ 0 → last_line n t held ≡ at_end n t
unfolding last_line
last_none n t [] none = refl
last_none n t (x ∷ xs) none = absurd (omega arith)

module _ (r : Reader) where
  pub finish-over : r.over ≡ true → finish r ≡ []
  unfolding finish
  finish-over e = rw e

  pub finish-held : r.over ≡ false → 0 < length r.held → finish r ≡ line line_word r.number
  unfolding finish
  finish-held on some = rw on (last-held r.number r.state r.held some)

  pub finish-none : r.over ≡ false → length r.held ≡ 0 → finish r ≡ at_end r.number r.state
  unfolding finish
  finish-none on none = rw on (last_none r.number r.state r.held none)
