-- What the code keeps of a sheet: the state of the definitions, read off its struct and a lent map. Assumes nothing.
use Rattle.std.specs.Prelude.{◌≡◌, Bool, true, false, List, [], ℕ, ◌*◌, ◌≤◌, ◌<◌, length, take}
use Rattle.theory_sheet.specs.declared.Phase.TheVariants.{Faults, Sends}
use Rattle.sheet_state.specs.declared.Sheet.{Sheet}
use Rattle.sheet_state.specs.declared.Says.{Says}
use Rattle.sheet_state.specs.declared.Says.TheVariants.{BadLine, Refusal, Blocks, Nothing}
use Rattle.sheet_state.specs.declared.Change.{Change}
use Rattle.mesh.specs.Mesh.{mesh}
use Rattle.mesh.specs.Numbers.{number}
use Rattle.mesh.specs.Maps.{bad_size, bad_length, bad_byte}
use Rattle.nodes.specs.Sized.{Sized}
use Rattle.blocks.specs.Marking.{Marking}
use Rattle.sheet_prints.specs.Prints.{line, line_word, no_word, blocks_word}
use Rattle.theory_sheet.specs.Sheet.{State, Step}

-- the map of the sheet's mesh stands in the first places of a lent one
abbrev pub map_of : Sheet → List ℕ → List ℕ
map_of s map = take (s.columns * s.rows) map

abbrev pub state_of : Sheet → List ℕ → State
state_of s map = record { phase = s.phase; columns = s.columns; rows = s.rows; map = map_of s map }

-- a mesh and a map that refusals 1 to 4 let pass
pub record FaultMap (columns rows : ℕ) (map : List ℕ) : Type 0 where
  pub good-columns : bad_size columns ≡ false
  pub good-rows : bad_size rows ≡ false
  pub good_length : bad_length columns rows map ≡ false
  pub good-bytes : bad_byte map ≡ false

-- a map of the size of its mesh, whose bad nodes lie in blocks
pub record MarkMap (columns rows : ℕ) (map : List ℕ) : Type 0 where
  pub sized : Sized columns rows map
  pub marking : Marking (mesh columns rows map)

-- from the mesh line on the map is one of faults, and from the first send on one of marks
pub record Ready (s : Sheet) (map : List ℕ) : Type 0 where
  pub room : 4096 ≤ length map
  pub faults : s.phase ≡ Faults → FaultMap s.columns s.rows (map_of s map)
  pub sends : s.phase ≡ Sends → MarkMap s.columns s.rows (map_of s map)

-- what is printed for line n
abbrev pub says_line : ℕ → Says → List ℕ
says_line n BadLine = line line_word n
says_line n (Refusal why) = line no_word (number why)
says_line n (Blocks k) = line blocks_word k
says_line n Nothing = []

abbrev pub says_ends : Says → Bool
says_ends BadLine = true
says_ends (Refusal why) = true
says_ends (Blocks k) = false
says_ends Nothing = false

-- the number that is printed, but for that of the line
abbrev pub says_number : Says → ℕ
says_number BadLine = 0
says_number (Refusal why) = number why
says_number (Blocks k) = k
says_number Nothing = 0

-- a sheet as it was, and what its line prints
abbrev pub unchanged : Sheet → Says → Change
unchanged s x = record { sheet = s; says = x }

-- the step of line n that a change stands for, with the map as it is then
abbrev pub step_of : ℕ → Change → List ℕ → Step
step_of n x map = record { printed = says_line n x.says; ends = says_ends x.says; next = state_of x.sheet map }

-- a line is taken as the definition's step says, whatever its number
pub record Changes (step : ℕ → Step) (x : Change) (map : List ℕ) : Type 0 where
  pub steps : (n : ℕ) → step n ≡ step_of n x map
  pub few : says_number x.says < 100000
  pub ready : says_ends x.says ≡ false → Ready x.sheet map
