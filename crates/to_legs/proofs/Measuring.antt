-- The legs of letters measured one by one. Assumes nothing.
use Rattle.std.proofs.Common.{◌≡◌, ℕ, ◌+◌, ◌-◌, ◌≤◌, ◌<◌, true, false, List, [], length, drop, refl, arith, add-zero, length-append}
use mathlib.Core.Bool.{or-true}
use borrow.Author.Tests.{lt-ltb, le-ltb}
use lib.ListN.{drop_of_length-le}
use Rattle.runs.specs.Equal.{Run}
use Rattle.theory_legs.specs.Groups.{number_bytes}
use Rattle.theory_legs.specs.Legs.{leg, legs}
use Rattle.theory_legs.specs.Files.{leg_number, leg_bytes}
use Rattle.theory_legs.specs.Converting.{hops_named, some_other, legs_of, some_long, too_long}
use Rattle.theory_legs.proofs.Sizes.{leg-one, leg-two, leg-three}
use Rattle.to_legs.specs.Measured.{LegSize, Measures}
use Rattle.to_legs.proofs.Letters.{legs_from, letter_at, run-leg}

-- The bytes of a leg

module _ (n : ℕ) where
  pub size-one : 1 ≤ n → n ≤ 32 → LegSize n 1
  size-one l m = record { bytes = λ h. leg-one h n l m; shorter = omega arith }

  pub size-two : 32 < n → n ≤ 4096 → LegSize n 2
  size-two l m = record { bytes = λ h. leg-two h n l m; shorter = omega arith }

  pub size-three : 4096 < n → LegSize n 3
  size-three l = record { bytes = λ h. leg-three h n l; shorter = omega arith }

-- the legs before index i are measured, and none of them is over 16,384: with the others they are all
pub record Measuring (xs : List ℕ) (n i : ℕ) (count bytes : ℕ) : Type 0 where
  pub within : i ≤ n
  pub all : n ≡ length xs
  pub no_other : some_other xs ≡ false
  pub longs : some_long (legs_of xs) ≡ some_long (legs_from xs i)
  pub counts : length (legs_of xs) ≡ count + length (legs_from xs i)
  pub sizes : length (leg_bytes (legs_of xs)) ≡ bytes + length (leg_bytes (legs_from xs i))
  pub few : count ≤ i
  pub shorter : bytes ≤ i

pub measuring-none : (xs : List ℕ) → some_other xs ≡ false → Measuring xs (length xs) 0 0 0
unfolding legs_from
measuring-none xs e =
    record {
      within = omega arith;
      all = refl;
      no_other = e;
      longs = refl;
      counts = omega arith;
      sizes = omega arith;
      few = omega arith;
      shorter = omega arith;
    }

module _ {xs : List ℕ} {n i : ℕ} {count bytes : ℕ} (m : Measuring xs n i count bytes) where
  module _ {j : ℕ} (h : i < n) (r : Run xs i j) where
    pub measuring-long : 16384 < j - i → too_long (legs_of xs) ≡ true
    unfolding some_long too_long
    measuring-long l =
        let at = letter_at xs i m.no_other (omega (arith, m.all)) in
        rw (m.longs, run-leg xs i j at r, lt-ltb 16384 (j - i) l)

    pub measuring-more : {x : ℕ} → j - i ≤ 16384 → LegSize (j - i) x → Measuring xs n j (count + 1) (bytes + x)
    unfolding some_long leg_bytes
    measuring-more {x} l s =
        let at = letter_at xs i m.no_other (omega (arith, m.all)) in
        let first = run-leg xs i j at r in
        let bytes-first = length-append (number_bytes (leg_number (leg at.heading (j - i)))) (leg_bytes (legs_from xs j)) in
        let counted = rw first at m.counts in
        let sized = rw first at m.sizes in
        record {
          within = omega (arith, r.within, m.all);
          all = m.all;
          no_other = m.no_other;
          longs = rw (first, le-ltb 16384 (j - i) l) at m.longs;
          counts = omega arith;
          sizes = omega (arith, s.bytes at.heading);
          few = omega (arith, m.few, r.begun);
          shorter = omega (arith, m.shorter, r.begun, s.shorter);
        }

  module _ (h : n ≤ i) where
    nothing : drop i xs ≡ []
    nothing = drop_of_length-le xs {i = i} (omega (arith, m.all))

    counted-all : length (legs_of xs) ≡ count
    unfolding legs_from hops_named legs
    counted-all = rw (nothing, add-zero) at m.counts

    pub measuring-many : 65535 < count → too_long (legs_of xs) ≡ true
    unfolding too_long
    measuring-many l = rw (counted-all, lt-ltb 65535 count l) (or-true (some_long (legs_of xs)))

    pub measuring-all : count ≤ 65535 → Measures xs (record { legs = count; bytes = bytes })
    unfolding legs_from hops_named legs some_long too_long leg_bytes
    measuring-all l =
        record {
          fits = rw (rw nothing at m.longs, counted-all, le-ltb 65535 count l);
          counts = counted-all;
          sizes = rw (nothing, add-zero) at m.sizes;
        }
