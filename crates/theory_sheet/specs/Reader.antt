-- A sheet read byte by byte, of which never more than a line of 20 bytes is held. Assumes nothing.
use Rattle.std.specs.Prelude.{Bool, false, cond, List, [], ◌∷◌, ◌++◌, ℕ, suc, leb, eqb, length, Option, None}
use Rattle.sheet_prints.specs.Prints.{line, line_word}
use Rattle.sheet_words.specs.declared.Command.{Command}
use Rattle.sheet_words.specs.Words.{command_at}
use Rattle.theory_sheet.specs.Sheet.{State, nothing, command_step, at_end}

-- the number of the line being read, what the lines before it have said, what is held of it, and whether the run is over
pub record Reader : Type 0 where
  pub number : ℕ
  pub state : State
  pub held : List ℕ
  pub over : Bool

-- in the middle of a run
abbrev pub reading : ℕ → State → List ℕ → Reader
reading n t xs = record { number = n; state = t; held = xs; over = false }

abbrev pub begun : Reader
begun = reading 1 nothing []

-- what is printed, and the reader after it
pub record Fed : Type 0 where
  pub printed : List ℕ
  pub next : Reader

-- after line n, which says c
abbrev pub after_line : ℕ → State → Option Command → Fed
after_line n t c =
    record {
      printed = (command_step n t c).printed;
      next = record { number = suc n; state = (command_step n t c).next; held = []; over = (command_step n t c).ends };
    }

-- a byte that is held
abbrev pub holding : Reader → ℕ → Fed
holding r x =
    record {
      printed = [];
      next = record { number = r.number; state = r.state; held = r.held ++ (x ∷ []); over = r.over };
    }

-- one byte: a newline ends the line; a line of 20 bytes that goes on is malformed, whatever follows
unfoldable pub feed : Reader → ℕ → Fed
feed r x =
    cond (eqb x 10) (after_line r.number r.state (command_at r.number r.held))
    (cond (leb 20 (length r.held)) (after_line r.number r.state None) (holding r x))

-- bytes in turn, until the run is over
unfoldable pub feed_all : Reader → List ℕ → Fed
feed_all r [] = record { printed = []; next = r }
feed_all r (x ∷ xs) =
    let rest = feed_all (feed r x).next xs in
    let on : Fed = record { printed = (feed r x).printed ++ rest.printed; next = rest.next } in
    cond r.over (record { printed = []; next = r }) on

-- at the end of the sheet: a line without its newline is malformed
unfoldable pub last_line : ℕ → State → List ℕ → List ℕ
last_line n t [] = at_end n t
last_line n t (x ∷ xs) = line line_word n

unfoldable pub finish : Reader → List ℕ
finish r = cond r.over [] (last_line r.number r.state r.held)
