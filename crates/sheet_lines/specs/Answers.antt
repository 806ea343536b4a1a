-- What answering a line does, and how much room its answer asks for. Assumes nothing.
use Rattle.std.specs.Prelude.{◌≡◌, false, List, ℕ, ◌+◌}
use Rattle.theory_walk.specs.Claims.{most_hops}
use Rattle.buffers.specs.Over.{Puts}
use Rattle.theory_sheet.specs.Sheet.{Step}
use Rattle.sheet_state.specs.Keeping.{state_of, Ready}
use Rattle.sheet_lines.specs.declared.Answered.{Answered}

-- `ok`, a number of at most five digits, the letters of any route, two spaces and a newline
abbrev pub send_room : ℕ
send_room = most_hops + 10

-- and `blocks B` before them
abbrev pub answer_room : ℕ
answer_room = most_hops + 26

-- a line is answered as the definition's step says
pub record Answers (t : Step) (out : List ℕ) (at : ℕ) (x : Answered) (map after : List ℕ) : Type 0 where
  pub puts : Puts out at t.printed x.at after
  pub ends : x.ends ≡ t.ends
  pub next : state_of x.sheet map ≡ t.next
  pub ready : x.ends ≡ false → Ready x.sheet map
