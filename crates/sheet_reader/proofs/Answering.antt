-- What was read is answered as the definition says: a line by its answer, a byte by holding it. Assumes nothing.
use Rattle.std.proofs.Common.{◌≡◌, false, List, ℕ, ◌≤◌, Option, length, add-one, arith}
use Rattle.buffers.proofs.Over.{puts-nothing}
use Rattle.sheet_words.specs.declared.Command.{Command}
use Rattle.theory_sheet.specs.Sheet.{command_step}
use Rattle.sheet_state.specs.Keeping.{state_of, Ready}
use Rattle.sheet_lines.specs.declared.Answered.{Answered}
use Rattle.sheet_lines.specs.Answers.{Answers}
use Rattle.sheet_bytes.specs.declared.Read.{Read}
use Rattle.sheet_bytes.specs.declared.Read.TheVariants.{Line, Part}
use Rattle.sheet_bytes.specs.declared.Reader.{Reader}
use Rattle.sheet_bytes.specs.Reading.{next_line}
use Rattle.sheet_reader.specs.Taking.{Advances}

module _ (r : Reader) {read : Read} (map out : List ℕ) {at : ℕ} where
  pub line-answered : {c : Option Command} {a : Answered} {z : Reader} {map' after : List ℕ} → read ≡ Line c → z ≡ next_line r.number a.sheet a.ends →
      Answers (command_step r.number (state_of r.sheet map) c) out at a map' after → Advances r read map out at a.at z map' after
  line-answered e is-z p =
      rw (e, is-z)
      (record {
        puts = p.puts;
        next = rw (add-one, p.next, p.ends);
        ready = p.ready;
        short = λ h. omega arith;
      })

  pub byte-held : read ≡ Part → Ready r.sheet map → r.over ≡ false → at ≤ length out → Advances r read map out at at r map out
  byte-held e ready on fits =
      rw e (record { puts = puts-nothing out at fits; next = rw on; ready = λ f. ready; short = λ h. h })
