-- What is printed for a sheet (document 01, "The sheet program"). Assumes nothing.
use Rattle.std.specs.Prelude.{Bool, true, false, cond, List, [], ◌∷◌, ◌++◌, ℕ, zero, suc, ◌+◌, ◌*◌, eqb, length, set, replicate, Option, None, Some}
use Rattle.theory_sheet.specs.declared.Phase.{Phase}
use Rattle.theory_sheet.specs.declared.Phase.TheVariants.{Start, Faults, Sends}
use Rattle.sheet_words.specs.declared.Command.{Command}
use Rattle.sheet_words.specs.declared.Command.TheVariants.{Mesh, Fault, Send}
use Rattle.mesh.specs.declared.Place.{Place}
use Rattle.mesh.specs.declared.Network.TheVariants.{First}
use Rattle.mesh.specs.Mesh.{Mesh as MeshOf, mesh}
use Rattle.mesh.specs.Headings.{letters}
use Rattle.mesh.specs.Tests.{first}
use Rattle.mesh.specs.Rounds.{marked}
use Rattle.mesh.specs.Blocks.{blocks}
use Rattle.mesh.specs.Maps.{bad_size, misplaced}
use Rattle.mesh.specs.Requests.{off_mesh, request_tests}
use Rattle.mesh.specs.Routing.{hops_of}
use Rattle.sheet_words.specs.Words.{command_at}
use Rattle.sheet_prints.specs.Prints.{line, blocks_word, no_word, line_word, ok_line}

-- a line without its newline, and whether it has one
pub record Line : Type 0 where
  pub text : List ℕ
  pub ended : Bool

-- a byte before the first line
unfoldable pub before : ℕ → List Line → List Line
before x [] = record { text = x ∷ []; ended = false } ∷ []
before x (l ∷ ls) = record { text = x ∷ l.text; ended = l.ended } ∷ ls

-- the lines of a text
unfoldable pub lines_of : List ℕ → List Line
lines_of [] = []
lines_of (x ∷ xs) = let rest = lines_of xs in cond (eqb x 10) (record { text = []; ended = true } ∷ rest) (before x rest)

-- what the lines so far have said: how far the sheet has come, its mesh, and its map. That is the fault map up to the first send,
-- and the marking of it from then on.
pub record State : Type 0 where
  pub phase : Phase
  pub columns : ℕ
  pub rows : ℕ
  pub map : List ℕ

abbrev pub nothing : State
nothing = record { phase = Start; columns = 0; rows = 0; map = [] }

abbrev pub mesh_of : State → MeshOf
mesh_of t = mesh t.columns t.rows t.map

-- what a line prints, whether it ends the run, and what has been said after it
pub record Step : Type 0 where
  pub printed : List ℕ
  pub ends : Bool
  pub next : State

abbrev pub ending : List ℕ → State → Step
ending xs t = record { printed = xs; ends = true; next = t }

abbrev pub saying : List ℕ → State → Step
saying xs t = record { printed = xs; ends = false; next = t }

-- line L ends the run
abbrev pub bad_line : ℕ → State → Step
bad_line n t = ending (line line_word n) t

-- sizes are judged at the first line: `no 1` or `no 2` ends the run; a later mesh line is too late
unfoldable pub mesh_line : Phase → ℕ → State → ℕ → ℕ → Step
mesh_line Start n t columns rows =
    cond (bad_size columns) (ending (line no_word 1) t)
    (cond (bad_size rows) (ending (line no_word 2) t)
    (saying [] (record { phase = Faults; columns = columns; rows = rows; map = replicate (columns * rows) 0 })))
mesh_line Faults n t columns rows = bad_line n t
mesh_line Sends n t columns rows = bad_line n t

-- a fault too early, too late or off the mesh is a bad line; the same fault twice counts once
unfoldable pub fault_line : Phase → ℕ → State → Place → Step
fault_line Start n t p = bad_line n t
fault_line Faults n t p =
    cond (off_mesh (mesh_of t) p) (bad_line n t)
    (saying []
    (record {
      phase = Faults;
      columns = t.columns;
      rows = t.rows;
      map = set t.map (p.row.0 * t.columns + p.column.0) 1;
    }))
fault_line Sends n t p = bad_line n t

-- a fault where none is allowed
unfoldable pub is_misplaced : State → Bool
is_misplaced t = misplaced t.columns t.rows t.map

-- blocks B
unfoldable pub blocks_line : State → List ℕ
blocks_line t = line blocks_word (length (blocks (marked (mesh_of t))))

-- from the first send on
abbrev pub sending : State → State
sending t = record { phase = Sends; columns = t.columns; rows = t.rows; map = (marked (mesh_of t)).map }

-- before the answer to a send, and at the end of a sheet: `blocks B` or `no 5` where there was no send yet, and `no 5` ends the run;
-- a send without a mesh line is too early, and an empty sheet gives `line 1`
unfoldable pub opening : Phase → ℕ → State → Step
opening Start n t = bad_line n t
opening Faults n t = cond (is_misplaced t) (ending (line no_word 5) t) (saying (blocks_line t) (sending t))
opening Sends n t = saying [] t

-- what line n says, before the answer to a send
unfoldable pub change : ℕ → State → Option Command → Step
change n t (Some (Mesh columns rows)) = mesh_line t.phase n t columns rows
change n t (Some (Fault p)) = fault_line t.phase n t p
change n t (Some (Send s d)) = opening t.phase n t
change n t None = bad_line n t

-- no NUMBER, or ok HOPS LETTERS
unfoldable pub answer_of : ℕ → List ℕ → List ℕ
answer_of zero xs = ok_line xs
answer_of (suc k) xs = line no_word (suc k)

-- a send's answer on a marked mesh, on the first network: refusals 6 to 9, else its route
unfoldable pub send_answer : MeshOf → Place → Place → List ℕ
send_answer w s d = answer_of (first (request_tests First w s d)) (letters (hops_of First w s d))

-- only sends are answered
unfoldable pub answer_to : MeshOf → Option Command → List ℕ
answer_to w (Some (Mesh columns rows)) = []
answer_to w (Some (Fault p)) = []
answer_to w (Some (Send s d)) = send_answer w s d
answer_to w None = []

-- what a line says, and its answer unless it ends the run
unfoldable pub answering : Option Command → Step → Step
answering c x = let on = saying (x.printed ++ answer_to (mesh_of x.next) c) x.next in cond x.ends x on

unfoldable pub command_step : ℕ → State → Option Command → Step
command_step n t c = answering c (change n t c)

-- a line without its newline is malformed
unfoldable pub command_of : ℕ → Line → Option Command
command_of n l = cond l.ended (command_at n l.text) None

unfoldable pub line_step : ℕ → State → Line → Step
line_step n t l = command_step n t (command_of n l)

-- at the end of the sheet, n being the number of the line after the last
unfoldable pub at_end : ℕ → State → List ℕ
at_end n t = (opening t.phase n t).printed

-- what is printed from line n on
unfoldable pub answers : ℕ → State → List Line → List ℕ
answers n t [] = at_end n t
answers n t (l ∷ ls) =
    let rest = answers (suc n) (line_step n t l).next ls in
    (line_step n t l).printed ++ cond (line_step n t l).ends [] rest

-- what is printed for a whole sheet
unfoldable pub sheet : List ℕ → List ℕ
sheet xs = answers 1 nothing (lines_of xs)
