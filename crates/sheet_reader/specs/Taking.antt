-- What taking bytes does. Assumes nothing.
use Rattle.std.specs.Prelude.{◌≡◌, Bool, false, not, ◌&&◌, List, ℕ, ◌+◌, ◌≤◌, ◌<◌, leb, ltb, length, take}
use Rattle.buffers.specs.Over.{Puts}
use Rattle.theory_sheet.specs.Reader as theory
use Rattle.theory_sheet.specs.Reader.{Fed, feed_all}
use Rattle.sheet_state.specs.Keeping.{state_of, Ready}
use Rattle.sheet_lines.specs.Answers.{answer_room}
use Rattle.sheet_bytes.specs.declared.Reader.{Reader}
use Rattle.sheet_bytes.specs.declared.Read.{Read}
use Rattle.sheet_bytes.specs.Reading.{reader_of, Reading}
use Rattle.sheet_bytes.specs.Next.{read_fed}
use Rattle.sheet_reader.specs.declared.Taken.{Taken}

-- bytes are taken as the definition says: r is the reader after them, x the index after what is printed
pub record Feeds (f : Fed) (out : List ℕ) (at : ℕ) (r : Reader) (x : ℕ) (map after : List ℕ) : Type 0 where
  pub puts : Puts out at f.printed x after
  pub next : reader_of r map ≡ f.next
  pub reading : Reading r map

-- what was read is answered as the definition says
pub record Advances (r : Reader) (read : Read) (map out : List ℕ) (at x : ℕ) (r' : Reader) (map' after : List ℕ) : Type 0 where
  pub puts : Puts out at (read_fed r.number (state_of r.sheet map) r.held read).printed x after
  pub next : reader_of r' map' ≡ (read_fed r.number (state_of r.sheet map) r.held read).next
  pub ready : r'.over ≡ false → Ready r'.sheet map'
  pub short : length r.held ≤ 20 → length r'.held ≤ 20

-- a further line can be answered: bytes are left, the run is not over, and there is room
unfoldable pub can_go_on : ℕ → ℕ → Bool → ℕ → ℕ → Bool
can_go_on i n over at room = ltb i n && (not over && leb at room)

-- what is printed stands at the start of out; bytes are left only where the run is over, or there is no room for a further answer
pub record TakesBytes (r : theory.Reader) (bytes out : List ℕ) (x : Taken) (map after : List ℕ) : Type 0 where
  pub within : x.taken ≤ length bytes
  pub feeds : Feeds (feed_all r (take x.taken bytes)) out 0 x.reader x.at map after
  pub room : x.at ≤ length out
  pub stops : x.taken < length bytes → x.reader.over ≡ false → length out < x.at + answer_room
