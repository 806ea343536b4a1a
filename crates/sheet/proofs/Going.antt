-- What the loop over the reads keeps: all that came was fed from the start and is answered, and each read that goes on leaves fewer bytes to take.
-- Assumes nothing.
use Rattle.std.proofs.Common.{◌≡◌, Bool, true, false, List, [], ◌++◌, ℕ, ◌≤◌, ◌<◌, Option, Some, None, Result, Ok, Err, length, take, inr, refl, sym, ap, ◌∙◌, arith}
use Rattle.std.proofs.Math.Decide.{dec_lt}
use Rattle.std.proofs.lemmas.Bool.{ltb-true, lt-ltb, not-true}
use Rattle.std.proofs.lemmas.List.{length-take-le}
use Rattle.std.specs.Io.KnownBytes.{Appends, Consumes, Keeps}
use Rattle.std.proofs.KnownBytes.{Appends-nil, Consumes-nil, Consumes-trans}
use Rattle.mesh.proofs.Bools.{true-false, and_both}
use Rattle.theory_sheet.specs.Reader as theory
use Rattle.theory_sheet.specs.Reader.{begun, feed_all}
use Rattle.theory_sheet.proofs.Progress.{most, feed-all-less}
use Rattle.theory_sheet.proofs.Theorems.{feed-chunks}
use Rattle.sheet_bytes.specs.declared.Reader.{Reader}
use Rattle.sheet_bytes.specs.Reading.{reader_of, Reading, Begins}
use Rattle.sheet_reader.proofs.Taking.{within}
use Rattle.sheet_writer.specs.Writing.{Writes}
use Rattle.sheet_writer.proofs.Written.{part-all, writes-after}
use Rattle.sheet.specs.declared.Failed.{Failed}
use Rattle.sheet.specs.declared.Failed.TheVariants.{Unread}
use Rattle.sheet.specs.declared.Read.{Read}
use Rattle.sheet.specs.Program.{Reads, Takes, goes_on, is_written, ReadsAll, AnswersAll}

keeps-consumed : (a b : Option (List ℕ)) → Keeps a b → Consumes a b []
keeps-consumed None b k = tt
keeps-consumed (Some x) None k = absurd k
keeps-consumed (Some x) (Some y) k = sym k

-- a read that failed
pub takes-none : {left left' : Option (List ℕ)} {r : theory.Reader} {held : Option (List ℕ)} {room : ℕ} {chunk : List ℕ} → Keeps left left' → Takes r left left' held held (Err Unread) room chunk
unfolding feed_all
takes-none {held = held} e =
    record {
      bytes = [];
      is = tt;
      came = keeps-consumed _ _ e;
      writes = record { whole = λ _. Appends-nil held; part = part-all [] (Appends-nil held) };
      ends = λ _. tt;
      told = λ _ _. inr refl;
    }

-- the bytes so far were fed from the start and are answered, and the run is not over
pub record Going (left left' held held' : Option (List ℕ)) (map : List ℕ) (r : Reader) : Type 0 where
  pub bytes : List ℕ
  pub came : Consumes left left' bytes
  pub fed : reader_of r map ≡ (feed_all begun bytes).next
  pub writes : Appends held held' (feed_all begun bytes).printed
  pub reading : Reading r map
  pub on : r.over ≡ false

pub going-first : {left held : Option (List ℕ)} {map : List ℕ} {r : Reader} → Begins r → 4096 ≤ length map → Going left left held held map r
unfolding feed_all
going-first {left = left} {held = held} {map = map} b size =
    record {
      bytes = [];
      came = Consumes-nil left;
      fed = b.begins map;
      writes = Appends-nil held;
      reading = b.reading map size;
      on = ap (λ q. q.over) (b.begins map);
    }

module _ {left left' held held' : Option (List ℕ)} {map : List ℕ} {r : Reader} (g : Going left left' held held' map r) {left'' held'' : Option (List ℕ)} {room : ℕ} {chunk : List ℕ} where
  module _ {x : Result Read Failed} (t : Takes (reader_of r map) left' left'' held' held'' x room chunk) where
    all : List ℕ
    all = g.bytes ++ t.bytes

    -- all that came is fed as one
    fed-all : feed_all begun all ≡
        record {
          printed = (feed_all begun g.bytes).printed ++ (feed_all (reader_of r map) t.bytes).printed;
          next = (feed_all (reader_of r map) t.bytes).next;
        }
    unfolding all
    fed-all = rw (feed-chunks begun g.bytes t.bytes, ← g.fed) refl

    came-more : Consumes left left'' all
    unfolding all
    came-more = Consumes-trans left left' left'' g.bytes t.bytes g.came t.came

    writes-more : Writes held held'' (feed_all begun all).printed (is_written x)
    writes-more = writes-after (feed_all begun g.bytes).printed g.writes t.writes (ap (λ f. f.printed) fed-all)

  pub answers-failed : {why : Failed} {room' : ℕ} {map' : List ℕ} → Takes (reader_of r map) left' left'' held' held'' (Err why) room chunk → AnswersAll left left'' held held'' room' (Err why) map'
  answers-failed t = record { bytes = all t; came = came-more t; fed = tt; writes = writes-more t; ends = λ _. tt }

  module _ {x : Read} {map' : List ℕ} (t : Takes (reader_of r map) left' left'' held' held'' (Ok x) room chunk) (n : Reads (reader_of r map) x chunk map') where
    fed-more : reader_of x.reader map' ≡ (feed_all begun (all t)).next
    fed-more = n.answers.fed ∙ ap (λ bs. (feed_all (reader_of r map) bs).next) (sym t.is) ∙ ap (λ f. f.next) (sym (fed-all t))

    module _ {b : Bool} (is_b : b ≡ goes_on x) where
      module _ (f : b ≡ false) where
        pub reads-stop : ReadsAll x map'
        reads-stop = record { stops = sym is_b ∙ f; fed = record { bytes = all t; fed = fed-more }; reading = n.answers.reading }

        -- where the run is not over, nothing came
        none-came : x.reader.over ≡ false → x.came ≡ 0
        unfolding goes_on
        none-came q =
            elim (dec_lt 0 x.came) [
              | yes h ↦ true-false refl (rw (lt-ltb 0 x.came h, q) at (sym is_b ∙ f))
              | no h ↦ omega arith
            ]

        pub answers-stop : {room' : ℕ} → room ≡ room' → AnswersAll left left'' held held'' room' (Ok x) map'
        answers-stop same =
            record {
              bytes = all t;
              came = came-more t;
              fed = fed-more;
              writes = writes-more t;
              ends = λ some q. t.ends (rw same some) (none-came q);
            }

      module _ (e : b ≡ true) where
        came-on : (0 < x.came) × (x.reader.over ≡ false)
        unfolding goes_on
        came-on =
            let (came, on) = and_both (sym is_b ∙ e) in
            (ltb-true 0 x.came came, not-true x.reader.over on)

        pub going_on : Going left left'' held held'' map' x.reader
        going_on =
            record {
              bytes = all t;
              came = came-more t;
              fed = fed-more;
              writes = (writes-more t).whole refl;
              reading = n.answers.reading;
              on = came-on.1;
            }

        pub going_less : most (reader_of x.reader map') < most (reader_of r map)
        going_less =
            let came = take x.came chunk in
            let some = came-on.0 in
            let fed = n.answers.fed in
            let (_, less) = rw (← fed) at (feed-all-less (reader_of r map) came (within g.reading g.on) g.on (ap (λ q. q.over) (sym fed) ∙ came-on.1)) in
            omega (arith, length-take-le x.came chunk n.within)
