-- What the loop over the bytes that came keeps: part by part they are fed, and answered, as the whole. Assumes nothing.
use Rattle.std.proofs.Common.{◌≡◌, Bool, true, false, List, ◌++◌, ℕ, ◌+◌, ◌≤◌, ◌<◌, Option, length, take, drop, refl, sym, ap, ◌∙◌, arith, append-nil, take-append-drop}
use Rattle.std.proofs.Math.Decide.{dec_lt}
use Rattle.std.proofs.lemmas.List.{take_all}
use Rattle.std.proofs.Math.Seq.{take-append_seam}
use Rattle.std.specs.Io.KnownBytes.{Appends}
use Rattle.std.proofs.KnownBytes.{Appends-nil}
use Rattle.mesh.proofs.Bools.{true-false}
use Rattle.buffers.specs.Over.{Puts}
use Rattle.buffers.proofs.Over.{over-all}
use Rattle.theory_sheet.specs.Reader as theory
use Rattle.theory_sheet.specs.Reader.{feed_all}
use Rattle.theory_sheet.proofs.Theorems.{over-rests, feed-chunks}
use Rattle.sheet_lines.specs.Answers.{answer_room}
use Rattle.sheet_bytes.specs.declared.Reader.{Reader}
use Rattle.sheet_bytes.specs.Reading.{reader_of, Reading}
use Rattle.sheet_reader.specs.declared.Taken.{Taken}
use Rattle.sheet_reader.specs.Taking.{TakesBytes}
use Rattle.sheet_reader.proofs.Parts.{from, from-size, from_more}
use Rattle.sheet_writer.specs.Writing.{Answers, Writes}
use Rattle.sheet_writer.proofs.Written.{part-more, part-all, writes-after}

-- what was put first stands there
pub put_front : {out ys after : List ℕ} {x : ℕ} → Puts out 0 ys x after → take x after ≡ ys
put_front {out = out} {ys = ys} {x = x} p =
    let size : x ≡ length ys = omega (arith, p.next) in
    ap (take x) (p.stands ∙ over-all out ys (omega (arith, p.fits))) ∙ rw size (take-append_seam ys (drop (length ys) out))

-- of a part of which nothing was taken nothing was printed; so something is taken, unless the run is over
takes-some : {r : theory.Reader} {bytes out map after : List ℕ} (x : Taken) → TakesBytes r bytes out x map after → r.over ≡ false → 1 ≤ length bytes → answer_room ≤ length out → 1 ≤ x.taken
unfolding feed_all
takes-some x t on some room =
    elim (dec_lt 0 x.taken) [
      | yes h ↦ h
      | no h ↦
          let none : x.taken ≡ 0 = omega arith in
          let f = rw none at t.feeds in
          let over = ap (λ q. q.over) f.next ∙ on in
          absurd (omega (arith, f.puts.next, t.stops (omega arith) over))
    ]

-- the first `used` bytes are fed, and what they print is written
pub record Using (r : theory.Reader) (bytes : List ℕ) (held held' : Option (List ℕ)) (map : List ℕ) (x : Reader) (used : ℕ) : Type 0 where
  pub within : used ≤ length bytes
  pub fed : reader_of x map ≡ (feed_all r (take used bytes)).next
  pub writes : Appends held held' (feed_all r (take used bytes)).printed
  pub reading : Reading x map

pub using-none : {r : Reader} {bytes map : List ℕ} {held : Option (List ℕ)} → Reading r map → Using (reader_of r map) bytes held held map r 0
unfolding feed_all
using-none {held = held} g = record { within = omega arith; fed = refl; writes = Appends-nil held; reading = g }

all-printed : (r : theory.Reader) (bytes : List ℕ) (n : ℕ) → (feed_all r bytes).printed ≡ (feed_all r (take n bytes)).printed ++ (feed_all (feed_all r (take n bytes)).next (drop n bytes)).printed
all-printed r bytes n =
    ap (λ xs. (feed_all r xs).printed) (sym (take-append-drop n bytes)) ∙ ap (λ f. f.printed) (feed-chunks r (take n bytes) (drop n bytes))

module _ {r : theory.Reader} {bytes : List ℕ} {held held' : Option (List ℕ)} {map : List ℕ} {x : Reader} {used : ℕ} (u : Using r bytes held held' map x used) where
  module _ (left : used < length bytes) (on : x.over ≡ false) {y : Taken} {out map' out' : List ℕ} (t : TakesBytes (reader_of x map) (from used bytes) out y map' out') (room : answer_room ≤ length out) where
    pub uses-more : (used + y.taken ≤ length bytes) × (1 ≤ y.taken)
    uses-more =
        let size = from-size used bytes in
        (omega (arith, t.within), takes-some y t on (omega arith) room)

    fed-more : feed_all r (take (used + y.taken) bytes) ≡
        record {
          printed = (feed_all r (take used bytes)).printed ++ (feed_all (reader_of x map) (take y.taken (from used bytes))).printed;
          next = (feed_all (reader_of x map) (take y.taken (from used bytes))).next;
        }
    fed-more = rw (from_more used bytes y.taken t.within, feed-chunks r (take used bytes) (take y.taken (from used bytes)), ← u.fed) refl

    writes-more : {held'' : Option (List ℕ)} {w : Bool} → Writes held' held'' (take y.at out') w → Writes held held'' (feed_all r (take (used + y.taken) bytes)).printed w
    writes-more now = writes-after (feed_all r (take used bytes)).printed u.writes (rw (put_front t.feeds.puts) at now) (ap (λ f. f.printed) fed-more)

    pub using-more : {held'' : Option (List ℕ)} {w : Bool} → Writes held' held'' (take y.at out') w → w ≡ true → Using r bytes held held'' map' y.reader (used + y.taken)
    using-more now e =
        record {
          within = uses-more.0;
          fed = t.feeds.next ∙ ap (λ f. f.next) (sym fed-more);
          writes = (writes-more now).whole e;
          reading = t.feeds.reading;
        }

    -- a write failed
    pub write-failed : {held'' : Option (List ℕ)} {w : Bool} → Writes held' held'' (take y.at out') w → Writes held held'' (feed_all r bytes).printed false
    write-failed now = record { whole = λ e. true-false e refl; part = part-more _ (writes-more now).part (all-printed r bytes (used + y.taken)) }

  -- the bytes that are left change nothing where the run is over
  module _ (over : x.over ≡ true) where
    pub rests : feed_all r bytes ≡ feed_all r (take used bytes)
    rests =
        ap (λ xs. feed_all r xs) (sym (take-append-drop used bytes)) ∙
        rw (feed-chunks r (take used bytes) (drop used bytes), ← u.fed, over-rests (reader_of x map) (drop used bytes) over, append-nil) refl

  pub all-used : length bytes ≤ used → feed_all r bytes ≡ feed_all r (take used bytes)
  all-used h = ap (λ xs. feed_all r xs) (sym (take_all used bytes h))

  pub used-up : feed_all r bytes ≡ feed_all r (take used bytes) → Answers r bytes x map
  used-up same = record { fed = u.fed ∙ ap (λ f. f.next) (sym same); reading = u.reading }

  pub written-up : feed_all r bytes ≡ feed_all r (take used bytes) → Writes held held' (feed_all r bytes).printed true
  written-up same = rw same (record { whole = λ _. u.writes; part = part-all _ u.writes })
