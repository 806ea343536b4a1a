-- The file of letters written leg by leg. Assumes nothing.
use mathlib.Core.Path.{◌≡◌, refl, sym, ap, ◌∙◌}
use mathlib.Core.Bool.{false}
use mathlib.Core.List.{List, ◌∷◌}
use Prim.Native.Nat.{ℕ, ◌+◌, ◌-◌, ◌*◌, ◌≤◌, ◌<◌}
use native.Mathlib.Omega.{arith}
use borrow.Author.Tests.{ltb-false}
use lib.Dec.{ltb}
use lib.ListN.{length, get_or, length-append, drop_of_length-le}
use Rattle.mesh.specs.declared.Heading.{Heading}
use Rattle.mesh.specs.Headings.{code}
use Rattle.mesh.proofs.Bools.{or-none}
use Rattle.mesh.proofs.Headings.{code-few}
use Rattle.buffers.specs.Over.{over, Puts}
use Rattle.buffers.proofs.Over.{over-append, over-length}
use Rattle.runs.specs.Equal.{Run}
use Rattle.headings.specs.Codes.{Codes}
use Rattle.theory_legs.specs.Groups.{number_bytes}
use Rattle.theory_legs.specs.Legs.{leg, legs}
use Rattle.theory_legs.specs.Files.{leg_number, leg_bytes, file}
use Rattle.theory_legs.specs.Converting.{hops_named, some_other, some_long, too_long, legs_of, file_of}
use Rattle.to_legs.specs.Measured.{LegsWritable, FileWritable}
use Rattle.to_legs.proofs.Letters.{legs_from, letter_at, run-leg}

-- The number of legs

module _ {xs : List ℕ} {count : ℕ} {out : List ℕ} (w : FileWritable xs count out) where
  fits_told : (some_long (legs_of xs) ≡ false) × (ltb 65535 (length (legs_of xs)) ≡ false)
  unfolding too_long
  fits_told = or-none (some_long (legs_of xs)) (ltb 65535 (length (legs_of xs))) w.fits

  file-size : length (number_bytes count) + length (leg_bytes (legs_of xs)) ≤ length out
  unfolding file_of file
  file-size =
      let all = rw w.counted at w.room in
      omega (arith, length-append (number_bytes count) (leg_bytes (legs_of xs)))

  pub count_fits : (count ≤ 65535) × (0 + length (number_bytes count) ≤ length out)
  count_fits = (omega (arith, ltb-false 65535 (length (legs_of xs)) fits_told.1, w.counted), omega (arith, file-size))

  module _ {at : ℕ} {mid : List ℕ} (p : Puts out 0 (number_bytes count) at mid) where
    pub count-written : LegsWritable xs at mid
    count-written =
        let same_size : length mid ≡ length out = rw p.stands (over-length out 0 (number_bytes count)) in
        record { no_other = w.no_other; short = fits_told.0; room = omega (arith, file-size, p.next) }

    pub all-written : {now : List ℕ} → now ≡ over mid at (leg_bytes (legs_of xs)) → now ≡ over out 0 (file_of xs)
    unfolding file_of file
    all-written e = e ∙ rw (p.stands, p.next, w.counted) (sym (over-append out 0 (number_bytes count) (leg_bytes (legs_of xs))))

-- the legs before index i are written: with the others the output is as it will be
pub record Writing (xs : List ℕ) (n first : ℕ) (out : List ℕ) (i at : ℕ) (now : List ℕ) : Type 0 where
  pub within : i ≤ n
  pub all : n ≡ length xs
  pub no_other : some_other xs ≡ false
  pub short : some_long (legs_from xs i) ≡ false
  pub size : length now ≡ length out
  pub room : at + length (leg_bytes (legs_from xs i)) ≤ length now
  pub leads : over now at (leg_bytes (legs_from xs i)) ≡ over out first (leg_bytes (legs_of xs))

pub writing-none : {xs : List ℕ} {first : ℕ} {out : List ℕ} → LegsWritable xs first out → Writing xs (length xs) first out 0 first out
unfolding legs_from
writing-none w =
    record { within = omega arith; all = refl; no_other = w.no_other; short = w.short; size = refl; room = w.room; leads = refl }

-- the leg from index i to before index j, and its direction's code k
record LegHere (xs : List ℕ) (i j k : ℕ) : Type 0 where
  pub heading : Heading
  pub first : legs_from xs i ≡ leg heading (j - i) ∷ legs_from xs j
  pub coded : k ≡ code heading
  pub short : j - i ≤ 16384

module _ {xs : List ℕ} {n first : ℕ} {out : List ℕ} {i at : ℕ} {now : List ℕ} (w : Writing xs n first out i at now) where
  module _ {j k : ℕ} (inside : i < n) (e : Codes (get_or xs i 0) k) (r : Run xs i j) where
    leg-here : LegHere xs i j k
    unfolding some_long
    leg-here =
        let letter-here = letter_at xs i w.no_other (omega (arith, w.all)) in
        let leg-first = run-leg xs i j letter-here r in
        record {
          heading = letter-here.heading;
          first = leg-first;
          coded = e.coded letter-here.heading letter-here.is-letter;
          short = ltb-false 16384 (j - i) (or-none (ltb 16384 (j - i)) (some_long (legs_from xs j)) (rw leg-first at w.short)).0;
        }

    pub leg-fits : (1 ≤ j - i) × (j - i ≤ 16384) × (k < 4)
    leg-fits = let h = leg-here in (omega (arith, r.begun), h.short, rw h.coded (code-few h.heading))

    -- the leg's number
    module _ {m : ℕ} (numbered : m ≡ (j - i - 1) * 4 + k) where
      is_number : m ≡ leg_number (leg leg-here.heading (j - i))
      unfolding leg_number
      is_number = numbered ∙ ap (λ c. (j - i - 1) * 4 + c) leg-here.coded

      pub number_fits : (m ≤ 65535) × (at + length (number_bytes m) ≤ length now)
      unfolding leg_bytes
      number_fits =
          let h = leg-here in
          let few = leg-fits in
          let room = rw (h.first, ← is_number) at w.room in
          (omega arith, omega (arith, length-append (number_bytes m) (leg_bytes (legs_from xs j))))

      pub writing_more : {at' : ℕ} {now' : List ℕ} → Puts now at (number_bytes m) at' now' → Writing xs n first out j at' now'
      unfolding leg_bytes some_long
      writing_more {at'} {now'} p =
          let h = leg-here in
          let room-here = rw (h.first, ← is_number) at w.room in
          let leads-here = rw (h.first, ← is_number) at w.leads in
          let same_size : length now' ≡ length now = rw p.stands (over-length now at (number_bytes m)) in
          record {
            within = omega (arith, r.within, w.all);
            all = w.all;
            no_other = w.no_other;
            short = (or-none (ltb 16384 (j - i)) (some_long (legs_from xs j)) (rw h.first at w.short)).1;
            size = same_size ∙ w.size;
            room = omega (arith, length-append (number_bytes m) (leg_bytes (legs_from xs j)), p.next);
            leads = rw (p.stands, p.next) (sym (over-append now at (number_bytes m) (leg_bytes (legs_from xs j)))) ∙ leads-here;
          }

  pub writing-all : n ≤ i → now ≡ over out first (leg_bytes (legs_of xs))
  unfolding legs_from hops_named legs leg_bytes over
  writing-all h = rw (drop_of_length-le xs {i = i} (omega (arith, w.all))) at w.leads
