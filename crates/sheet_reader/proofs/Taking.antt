-- Bytes taken one line or byte after another are fed as the whole. Assumes nothing.
use Rattle.std.proofs.Common.{◌≡◌, refl, sym, ap, ◌∙◌, Bool, true, false, List, ℕ, ◌+◌, ◌-◌, ◌≤◌, ◌<◌, arith, leb, length, take}
use Rattle.std.proofs.lemmas.Bool.{ltb-true, lt-ltb, leb-true, leb-false, not-true}
use Rattle.mesh.proofs.Bools.{and_both}
use Rattle.buffers.proofs.Over.{puts-nothing, puts-append}
use Rattle.theory_walk.specs.Claims.{most_hops}
use Rattle.theory_sheet.specs.Reader as theory
use Rattle.theory_sheet.specs.Reader.{reading, feed_all}
use Rattle.theory_sheet.proofs.Feeding.{chunks}
use Rattle.theory_sheet.proofs.Progress.{Within, feed-all-less}
use Rattle.sheet_state.specs.Keeping.{state_of, Ready}
use Rattle.sheet_lines.specs.Answers.{answer_room}
use Rattle.sheet_bytes.specs.declared.Next.{Next}
use Rattle.sheet_bytes.specs.Next.{read_fed, ReadsNext}
use Rattle.sheet_bytes.specs.declared.Reader.{Reader}
use Rattle.sheet_bytes.specs.Reading.{reader_of, Reading}
use Rattle.sheet_reader.specs.Taking.{Feeds, Advances, can_go_on, TakesBytes}
use Rattle.sheet_reader.proofs.Parts.{from, from-size, from_more}

pub within : {r : Reader} {map : List ℕ} → Reading r map → r.over ≡ false → Within (reader_of r map)
within g on = record { few = g.few on; short = g.short }

-- one line or byte: read, which leaves h held, and then answered, which leaves the reader q
module _ {r : Reader} {map : List ℕ} (g : Reading r map) (on : r.over ≡ false) {bytes h : List ℕ} {x : Next} (read : ReadsNext r.number bytes r.held x h) where
  abbrev pub at_hand : Reader
  at_hand = record { sheet = r.sheet; number = r.number; held = h; over = r.over }

  step-fed : feed_all (reader_of r map) (take x.taken bytes) ≡ read_fed r.number (state_of r.sheet map) h x.read
  step-fed = rw on (read.fed (state_of r.sheet map))

  pub step : {q : Reader} {out : List ℕ} {at y : ℕ} {map' after : List ℕ} → Advances at_hand x.read map out at y q map' after →
      Feeds (feed_all (reader_of r map) (take x.taken bytes)) out at q y map' after
  step {map' = map'} a =
      let next = a.next ∙ ap (λ f. f.next) (sym step-fed) in
      record {
        puts = rw step-fed a.puts;
        next = next;
        reading =
            record {
              short = a.short (read.short g.short);
              few = λ f. (rw (← next) at (feed-all-less (reader_of r map) (take x.taken bytes) (within g on) on (ap (λ r. r.over) (sym next) ∙ f)).0).few;
              ready = a.ready;
            };
      }

-- the first i bytes are taken
pub record Taking (r : theory.Reader) (bytes map₀ out₀ : List ℕ) (room : ℕ) (map out letters : List ℕ) (q : Reader) (at i : ℕ) : Type 0 where
  pub within : i ≤ length bytes
  pub rooms : room + answer_room ≡ length out₀
  pub fits : at ≤ length out₀
  pub all-letters : length letters ≡ most_hops
  pub same_map : length map ≡ length map₀
  pub same_out : length out ≡ length out₀
  pub feeds : Feeds (feed_all r (take i bytes)) out₀ 0 q at map out

pub taking-none : {r : Reader} {bytes map out letters : List ℕ} → Reading r map → answer_room ≤ length out → length letters ≡ most_hops →
    Taking (reader_of r map) bytes map out (length out - answer_room) map out letters r 0 0
unfolding feed_all
taking-none {out = out} g room all =
    record {
      within = omega arith;
      rooms = omega arith;
      fits = omega arith;
      all-letters = all;
      same_map = refl;
      same_out = refl;
      feeds = record { puts = puts-nothing out 0 (omega arith); next = refl; reading = g };
    }

module _ {r : theory.Reader} {bytes map₀ out₀ : List ℕ} {room : ℕ} {map out letters : List ℕ} {q : Reader} {at i : ℕ} (t : Taking r bytes map₀ out₀ room map out letters q at i) {b : Bool} (is_b : b ≡ can_go_on i (length bytes) q.over at room) where
  module _ (go : b ≡ true) where
    can : (i < length bytes) × (q.over ≡ false) × (at ≤ room)
    unfolding can_go_on
    can =
        let (left, rest) = and_both (sym is_b ∙ go) in
        let (on, fits) = and_both rest in
        (ltb-true i (length bytes) left, not-true q.over on, leb-true at room fits)

    pub can-read : 1 ≤ length (from i bytes)
    can-read = omega (arith, can.0, from-size i bytes)

    pub can-answer : Ready q.sheet map × (q.number ≤ 65536) × (q.over ≡ false) × (most_hops ≤ length letters) × (at + answer_room ≤ length out)
    can-answer =
        let g = t.feeds.reading in
        let on = can.1 in
        (g.ready on, g.few on, on, omega (arith, t.all-letters), omega (arith, can.2, t.rooms, t.same_out))

    module _ {x : Next} {h : List ℕ} (read : ReadsNext q.number (from i bytes) q.held x h) where
      pub reads_on : (i + x.taken ≤ length bytes) × (i < i + x.taken)
      reads_on = (omega (arith, read.within, from-size i bytes, t.within), omega (arith, read.some))

      pub taking-more : {q' : Reader} {y : ℕ} {map' after letters' : List ℕ} → length letters' ≡ length letters → length map' ≡ length map → length after ≡ length out →
          Advances (record { sheet = q.sheet; number = q.number; held = h; over = q.over }) x.read map out at y q' map' after → Taking r bytes map₀ out₀ room map' after letters' q' y (i + x.taken)
      taking-more same-letters same_map same_out a =
          let k = x.taken in
          let fed = t.feeds.next in
          let f = step t.feeds.reading can.1 read a in
          let more = from_more i bytes k read.within in
          record {
            within = reads_on.0;
            rooms = t.rooms;
            fits = omega (arith, f.puts.fits, t.same_out);
            all-letters = same-letters ∙ t.all-letters;
            same_map = same_map ∙ t.same_map;
            same_out = same_out ∙ t.same_out;
            feeds =
                rw (more, chunks r (take i bytes) (take k (from i bytes)), ← fed)
                (record { puts = puts-append t.feeds.puts f.puts; next = f.next; reading = f.reading });
          }

  pub taken : b ≡ false → TakesBytes r bytes out₀ (record { reader = q; at = at; taken = i }) map out
  unfolding can_go_on
  taken stop =
      record {
        within = t.within;
        feeds = t.feeds;
        room = t.fits;
        stops =
            λ left on.
            let full : leb at room ≡ false = rw (lt-ltb i (length bytes) left, on) at (sym is_b ∙ stop) in
            omega (arith, leb-false at room full, t.rooms);
      }
