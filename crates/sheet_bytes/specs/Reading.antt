-- What the code keeps of a sheet being read: the reader of the definitions, read off its struct and a lent map. Assumes nothing.
use Rattle.std.specs.Prelude.{◌≡◌, Bool, false, List, [], ℕ, ◌+◌, ◌≤◌, length}
use Rattle.theory_sheet.specs.Reader as theory
use Rattle.theory_sheet.specs.Reader.{begun}
use Rattle.sheet_state.specs.declared.Sheet.{Sheet}
use Rattle.sheet_state.specs.Keeping.{state_of, Ready}
use Rattle.sheet_bytes.specs.declared.Reader.{Reader}

-- the reader of the definitions
abbrev pub reader_of : Reader → List ℕ → theory.Reader
reader_of r map = record { number = r.number; state = state_of r.sheet map; held = r.held; over = r.over }

-- where a sheet stands after line n
abbrev pub next_line : ℕ → Sheet → Bool → Reader
next_line n sheet over = record { sheet = sheet; number = n + 1; held = []; over = over }

-- a line that is at most the 65,536th is read
pub record Reading (r : Reader) (map : List ℕ) : Type 0 where
  pub short : length r.held ≤ 20
  pub few : r.over ≡ false → r.number ≤ 65536
  pub ready : r.over ≡ false → Ready r.sheet map

-- the reader of a sheet of which nothing is read yet
pub record Begins (r : Reader) : Type 0 where
  pub begins : (map : List ℕ) → reader_of r map ≡ begun
  pub reading : (map : List ℕ) → 4096 ≤ length map → Reading r map
