-- What answering bytes promises: the reader is what the definition says of all of them, and what the writer holds grows by what they print.
-- Assumes nothing.
use Rattle.std.specs.Prelude.{◌≡◌, Bool, true, List, ◌++◌, ℕ, Option}
use Rattle.std.specs.Io.KnownBytes.{Appends}
use Rattle.theory_sheet.specs.Reader as theory
use Rattle.theory_sheet.specs.Reader.{Fed, feed_all}
use Rattle.sheet_bytes.specs.declared.Reader.{Reader}
use Rattle.sheet_bytes.specs.Reading.{reader_of, Reading}

-- what a writer holds grows by a first part of some bytes, of which any may be left
pub record AppendsPart (held held' : Option (List ℕ)) (bytes : List ℕ) : Type 0 where
  pub part : List ℕ
  pub rest : List ℕ
  pub parts : bytes ≡ part ++ rest
  pub appends : Appends held held' part

-- all of some bytes are written, or else a first part of them
pub record Writes (held held' : Option (List ℕ)) (bytes : List ℕ) (written : Bool) : Type 0 where
  pub whole : written ≡ true → Appends held held' bytes
  pub part : AppendsPart held held' bytes

-- bytes are answered: all of them are fed
pub record Answers (r : theory.Reader) (bytes : List ℕ) (x : Reader) (map : List ℕ) : Type 0 where
  pub fed : reader_of x map ≡ (feed_all r bytes).next
  pub reading : Reading x map
