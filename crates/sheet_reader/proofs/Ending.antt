-- The end of a sheet, by how far it was read. Assumes nothing.
use Rattle.std.proofs.Common.{◌≡◌, true, false, List, ℕ, ◌≤◌, ◌<◌, length}
use Rattle.buffers.specs.Over.{Puts}
use Rattle.buffers.proofs.Over.{puts-nothing}
use Rattle.sheet_prints.specs.Prints.{line, line_word}
use Rattle.theory_sheet.specs.Sheet.{at_end}
use Rattle.theory_sheet.specs.Reader.{finish}
use Rattle.theory_sheet.proofs.Ends.{finish-over, finish-held, finish-none}
use Rattle.sheet_state.specs.Keeping.{state_of}
use Rattle.sheet_bytes.specs.declared.Reader.{Reader}
use Rattle.sheet_bytes.specs.Reading.{reader_of}

module _ (r : Reader) (map : List ℕ) {out : List ℕ} {at : ℕ} where
  pub over-end : r.over ≡ true → at ≤ length out → Puts out at (finish (reader_of r map)) at out
  over-end over fits = rw (finish-over (reader_of r map) over) (puts-nothing out at fits)

  module _ (on : r.over ≡ false) {x : ℕ} {after : List ℕ} where
    pub held-end : 0 < length r.held → Puts out at (line line_word r.number) x after → Puts out at (finish (reader_of r map)) x after
    held-end some p = rw (finish-held (reader_of r map) on some) p

    pub sheet-end : length r.held ≡ 0 → Puts out at (at_end r.number (state_of r.sheet map)) x after → Puts out at (finish (reader_of r map)) x after
    sheet-end none p = rw (finish-none (reader_of r map) on none) p
