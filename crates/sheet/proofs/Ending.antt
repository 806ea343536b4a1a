-- The bytes that came and the end of the sheet, together the sheet. Assumes nothing.
use Rattle.std.proofs.Common.{◌≡◌, Bool, false, List, [], ◌++◌, ℕ, ◌≤◌, Option, Some, None, Result, Ok, Err, is_ok, IfSome, IfErr, take, refl, ap, ◌∙◌, inl, inr, append_assoc, append-nil}
use Rattle.std.specs.Bool.{⊤}
use Rattle.std.specs.Io.KnownBytes.{Keeps}
use Rattle.std.proofs.KnownBytes.{Appends-trans}
use Rattle.mesh.proofs.Bools.{value, true-false}
use Rattle.buffers.specs.Over.{Puts}
use Rattle.theory_sheet.specs.Reader as theory
use Rattle.theory_sheet.specs.Reader.{begun, feed_all, finish}
use Rattle.theory_sheet.specs.Sheet.{sheet}
use Rattle.theory_sheet.proofs.Theorems.{read-is-sheet, feed-chunks, over-rests}
use Rattle.sheet_bytes.specs.Reading.{reader_of}
use Rattle.sheet_writer.specs.Writing.{AppendsPart, Writes}
use Rattle.sheet_writer.proofs.Written.{keeps-none, part-more, writes-after}
use Rattle.sheet_writer.proofs.Using.{put_front}
use Rattle.sheet.specs.declared.Failed.{Failed}
use Rattle.sheet.specs.declared.Failed.TheVariants.{Unwritten}
use Rattle.sheet.specs.declared.Read.{Read}
use Rattle.sheet.specs.Program.{AnswersAll, Ends}

-- the bytes that are left print nothing where there are none, or the run is over
rest-prints : (r : theory.Reader) (ys : List ℕ) → (r.over ≡ false → ys ≡ []) → (feed_all r ys).printed ++ finish (feed_all r ys).next ≡ finish r
unfolding feed_all
rest-prints r ys e =
    elim (value r.over) [
      | inl over ↦ rw (over-rests r ys over) refl
      | inr on ↦ rw (e on) refl
    ]

-- whatever is left of it
in-parts : (bytes ys : List ℕ) → let r = (feed_all begun bytes).next in
    sheet (bytes ++ ys) ≡ (feed_all begun bytes).printed ++ ((feed_all r ys).printed ++ finish (feed_all r ys).next)
in-parts bytes ys =
    read-is-sheet (bytes ++ ys) ∙ rw (feed-chunks begun bytes ys) (append_assoc (feed_all begun bytes).printed _ _)

part-kept : {a b : Option (List ℕ)} (c : Option (List ℕ)) {xs : List ℕ} → AppendsPart a b xs → Keeps b c → AppendsPart a c xs
part-kept {a = a} {b = b} c p k =
    record {
      part = p.part;
      rest = p.rest;
      parts = p.parts;
      appends = rw append-nil at (Appends-trans a b c p.part [] p.appends (keeps-none b c k));
    }

-- all came, and the end is written too
came : {left left' held held' held'' : Option (List ℕ)} {room : ℕ} {y : Read} {map : List ℕ} {all : Bool} → AnswersAll left left' held held' room (Ok y) map →
    Writes held' held'' (finish (reader_of y.reader map)) all → 1 ≤ room → IfSome left (λ xs. Writes held held'' (sheet xs) all)
came {left = None} a w some = tt
came {left = Some xs} {left' = None} a w some = absurd a.came
came {left = Some xs} {left' = Some ys} a w some =
    let r = (feed_all begun a.bytes).next in
    let parts : sheet xs ≡ (feed_all begun a.bytes).printed ++ ((feed_all r ys).printed ++ finish (feed_all r ys).next) =
    ap sheet a.came ∙ in-parts a.bytes ys in
    let end : r.over ≡ false → ys ≡ [] = λ on. a.ends some (ap (λ q. q.over) a.fed ∙ on) in
    let last = rw a.fed at w in
    writes-after (feed_all begun a.bytes).printed (a.writes.whole refl) last
    (parts ∙ ap (λ zs. (feed_all begun a.bytes).printed ++ zs) (rest-prints r ys end))

-- a read or a write failed before
failed : {left left' held held' : Option (List ℕ)} (held'' : Option (List ℕ)) {room : ℕ} {why : Failed} {map : List ℕ} {all : Bool} → AnswersAll left left' held held' room (Err why) map →
    all ≡ false → Keeps held' held'' → IfSome left (λ xs. Writes held held'' (sheet xs) all)
failed {left = None} held'' a e k = tt
failed {left = Some xs} {left' = None} held'' a e k = absurd a.came
failed {left = Some xs} {left' = Some ys} held'' a e k =
    record { whole = λ t. true-false t e; part = part-more _ (part-kept held'' a.writes.part k) (ap sheet a.came ∙ in-parts a.bytes ys) }

pub runs : {left left' held held' held'' : Option (List ℕ)} {room : ℕ} {last : Result Read Failed} {map : List ℕ} {x : Result ⊤ Failed} → AnswersAll left left' held held' room last map →
    Ends held' held'' last map x → 1 ≤ room → IfSome left (λ xs. Writes held held'' (sheet xs) (is_ok x))
runs {last = Ok y} a e some = came a e.writes some
runs {last = Err why} a e some = failed _ a (ap is_ok e.failed.0) e.failed.1

-- nothing failed before, and only the last write can
pub ends : {held held' : Option (List ℕ)} {last : Result Read Failed} {y : Read} {map out after : List ℕ} {at : ℕ} {x : Result ⊤ Failed} → last ≡ Ok y →
    Puts out 0 (finish (reader_of y.reader map)) at after → Writes held held' (take at after) (is_ok x) → IfErr x (λ why. why ≡ Unwritten) → Ends held held' last map x
ends e p w u = rw e (record { failed = tt; writes = rw (put_front p) at w; unwritten = u })
