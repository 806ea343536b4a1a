-- What the next bytes of a sheet come to. Assumes nothing.
use Rattle.std.specs.Prelude.{◌≡◌, List, [], ℕ, ◌≤◌, length, take}
use Rattle.theory_sheet.specs.Sheet.{State}
use Rattle.theory_sheet.specs.Reader.{reading, Fed, after_line, feed, feed_all}
use Rattle.sheet_bytes.specs.declared.Read.{Read}
use Rattle.sheet_bytes.specs.declared.Read.TheVariants.{Line, Part}
use Rattle.sheet_bytes.specs.declared.Next.{Next}

-- the reader of line n after it: a line is over, or some bytes are held
abbrev pub read_fed : ℕ → State → List ℕ → Read → Fed
read_fed n t held (Line c) = after_line n t c
read_fed n t held Part = record { printed = []; next = reading n t held }

-- a byte is read as the definition says, whatever the lines before have said
pub record ReadsByte (n byte : ℕ) (held : List ℕ) (x : Read) (after : List ℕ) : Type 0 where
  pub fed : (t : State) → feed (reading n t held) byte ≡ read_fed n t after x
  pub short : length held ≤ 20 → length after ≤ 20

-- of bytes at least one is read, as the definition says, whatever the lines before have said
pub record ReadsNext (n : ℕ) (bytes held : List ℕ) (x : Next) (after : List ℕ) : Type 0 where
  pub some : 1 ≤ x.taken
  pub within : x.taken ≤ length bytes
  pub fed : (t : State) → feed_all (reading n t held) (take x.taken bytes) ≡ read_fed n t after x.read
  pub short : length held ≤ 20 → length after ≤ 20
