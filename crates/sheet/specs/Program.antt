-- What the program's loops promise: the reader is what the definition says of all bytes read, and what is written is what they print. Of a
-- reader or a writer whose bytes are not known, as the standard streams, no contract can say more. Assumes nothing.
use Rattle.std.specs.Prelude.{◌≡◌, Bool, true, false, not, ◌&&◌, ◌⊎◌, List, [], ◌∷◌, ◌++◌, ℕ, ◌≤◌, ltb, length, take, codes, Option, Result, Ok, Err, is_ok, IfOk, IfErr, ⊤}
use Rattle.std.specs.Io.KnownBytes.{Consumes, IsAtEnd, Keeps}
use Rattle.theory_sheet.specs.Reader as theory
use Rattle.theory_sheet.specs.Reader.{begun, feed_all, finish}
use Rattle.sheet_bytes.specs.Reading.{reader_of, Reading}
use Rattle.sheet_writer.specs.Writing.{AppendsPart, Answers, Writes}
use Rattle.sheet.specs.declared.Failed.{Failed}
use Rattle.sheet.specs.declared.Failed.TheVariants.{Unread, Unwritten}
use Rattle.sheet.specs.declared.Read.{Read}

-- what came is within the chunk, and is answered
pub record Reads (r : theory.Reader) (x : Read) (chunk map : List ℕ) : Type 0 where
  pub within : x.came ≤ length chunk
  pub answers : Answers r (take x.came chunk) x.reader map

-- whether all that was to be written was
abbrev pub is_written : Result Read Failed → Bool
is_written (Ok x) = true
is_written (Err Unread) = true
is_written (Err Unwritten) = false

-- bytes came, which are what a reader had left, and are answered as far as they could be; nothing came only where it is at its end, or the
-- read failed, and then that is what failed
pub record Takes (r : theory.Reader) (left left' held held' : Option (List ℕ)) (x : Result Read Failed) (room : ℕ) (chunk : List ℕ) : Type 0 where
  pub bytes : List ℕ
  pub is : IfOk x (λ y. bytes ≡ take y.came chunk)
  pub came : Consumes left left' bytes
  pub writes : Writes held held' (feed_all r bytes).printed (is_written x)
  pub ends : 1 ≤ room → IfOk x (λ y. y.came ≡ 0 → IsAtEnd left')
  pub told : 1 ≤ room → IfErr x (λ why. bytes ≡ [] → IsAtEnd left' ⊎ (why ≡ Unread))

-- reading goes on: something came, and the run is not over
unfoldable pub goes_on : Read → Bool
goes_on x = ltb 0 x.came && not x.reader.over

-- a reader that was fed these bytes from the start; which bytes came no contract can say
pub record FedFromStart (r : theory.Reader) : Type 0 where
  pub bytes : List ℕ
  pub fed : r ≡ (feed_all begun bytes).next

-- reading stops only where it does not go on; the reader was then fed bytes from the start, read by read (`Reads`)
pub record ReadsAll (x : Read) (map : List ℕ) : Type 0 where
  pub stops : goes_on x ≡ false
  pub fed : FedFromStart (reader_of x.reader map)
  pub reading : Reading x.reader map

-- the bytes that a reader had left and what they print, up to the end or to where the run was over, unless a read or a write failed
pub record AnswersAll (left left' held held' : Option (List ℕ)) (room : ℕ) (x : Result Read Failed) (map : List ℕ) : Type 0 where
  pub bytes : List ℕ
  pub came : Consumes left left' bytes
  pub fed : IfOk x (λ y. reader_of y.reader map ≡ (feed_all begun bytes).next)
  pub writes : Writes held held' (feed_all begun bytes).printed (is_written x)
  pub ends : 1 ≤ room → IfOk x (λ y. y.reader.over ≡ false → IsAtEnd left')

-- what failed before is still what failed, and nothing more is printed; else the end is, and only writing it can fail
pub record Ends (held held' : Option (List ℕ)) (last : Result Read Failed) (map : List ℕ) (x : Result ⊤ Failed) : Type 0 where
  pub failed : IfErr last (λ why. (x ≡ Err why) × Keeps held held')
  pub writes : IfOk last (λ y. Writes held held' (finish (reader_of y.reader map)) (is_ok x))
  pub unwritten : IfOk last (λ _. IfErr x (λ why. why ≡ Unwritten))

abbrev pub cannot_read : List ℕ
cannot_read = codes "sheet: cannot read" ++ (10 ∷ [])

abbrev pub cannot_write : List ℕ
cannot_write = codes "sheet: cannot write" ++ (10 ∷ [])

-- what is told of what failed
abbrev pub told_of : Failed → List ℕ
told_of Unread = cannot_read
told_of Unwritten = cannot_write

-- nothing is told where all went well, else what failed; of which, where that fails too, a first part
pub record Tells (told told' : Option (List ℕ)) (x : Result ⊤ Failed) (all : Bool) : Type 0 where
  pub silent : IfOk x (λ _. (all ≡ true) × Keeps told told')
  pub failed : IfErr x (λ why. (all ≡ false) × AppendsPart told told' (told_of why))

-- once
pub record TellsOnce (told told' : Option (List ℕ)) (all : Bool) : Type 0 where
  pub silent : all ≡ true → Keeps told told'
  pub once : all ≡ false → AppendsPart told told' cannot_read ⊎ AppendsPart told told' cannot_write
