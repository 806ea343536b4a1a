-- The letters of a file written leg by leg. Assumes nothing.
use Rattle.std.specs.Prelude.{Option, Some, None, Ok, Err}
use mathlib.Core.Path.{◌≡◌, refl, ap, sym, ◌∙◌}
use mathlib.Core.Logic.{inl, inr}
use mathlib.Core.List.{List, [], ◌∷◌, ◌++◌}
use Prim.Native.Nat.{ℕ, zero, suc, ◌+◌, ◌-◌, ◌/◌, ◌%◌, ◌≤◌, ◌<◌}
use native.Mathlib.Omega.{arith}
use lib.ListN.{length, drop, replicate, length-append, length-replicate}
use Rattle.mesh.specs.declared.Heading.{Heading}
use Rattle.mesh.specs.Headings.{letter, letters, last_is, direction}
use Rattle.mesh.proofs.Bools.{value}
use Rattle.buffers.specs.Over.{over, Puts}
use Rattle.buffers.proofs.Over.{over-append, over-length}
use Rattle.groups.specs.Reading.{number_told, number_from}
use Rattle.theory_legs.specs.declared.LegRefusal.{LegRefusal}
use Rattle.theory_legs.specs.Groups.{found, read_number}
use Rattle.theory_legs.specs.Legs.{Leg, hops}
use Rattle.theory_legs.specs.Files.{leg_of, leg_before, read_legs}
use Rattle.theory_legs.specs.Converting.{legs_in}
use Rattle.theory_legs.proofs.Groups.{faulty, read, outcome, fault-found}
use Rattle.theory_legs.proofs.Files.{leg-unread, leg-repeats, leg-differs}
use Rattle.to_letters.specs.Counted.{legs_after, Readable, letters_from}

letters-run : (n : ℕ) (h : Heading) (hs : List Heading) → letters (replicate n h ++ hs) ≡ replicate n (letter h) ++ letters hs
unfolding letters
letters-run zero h hs = refl
letters-run (suc n) h hs = ap (λ xs. letter h ∷ xs) (letters-run n h hs)

-- One leg

module _ (n : ℕ) (byte : ℕ) {out : List ℕ} {to x : ℕ} {after : List ℕ} where
  pub puts_one : n < 4 → Puts out to (byte ∷ []) x after → Puts out to (replicate (n / 4 + 1) byte) x after
  puts_one h p = let one : n / 4 + 1 ≡ 1 = omega arith in rw one p

  pub puts-run : to + (n / 4 + 1) ≤ length out → after ≡ over out to (replicate (n / 4 + 1) byte) → x ≡ to + (n / 4 + 1) →
      Puts out to (replicate (n / 4 + 1) byte) x after
  puts-run room e f =
      record { next = f ∙ rw (length-replicate (n / 4 + 1) byte); stands = e; fits = omega (arith, f) }

-- the letters of some legs are written: with those of the legs left the output is as it will be
pub record Writing (ys : List ℕ) (first legs : ℕ) (out : List ℕ) (at to left : ℕ) (now : List ℕ) : Type 0 where
  pub before : Option Heading
  pub others : List Leg
  pub rest : List ℕ
  pub after : legs_after ys at left before ≡ found others rest
  pub size : length now ≡ length out
  pub room : to + length (hops others) ≤ length now
  pub leads : over now to (letters (hops others)) ≡ over out 0 (letters_from ys first legs)

pub writing-none : {ys : List ℕ} {first legs : ℕ} {out : List ℕ} → Readable ys first legs out → Writing ys first legs out first 0 legs out
unfolding letters_from legs_in
writing-none r =
    record {
      before = None;
      others = r.legs-there;
      rest = r.rest;
      after = r.after;
      size = refl;
      room = omega (arith, r.room);
      leads = rw r.after;
    }

-- the next leg, and the others
record Next (ys : List ℕ) (left n next : ℕ) (all : List Leg) (rest : List ℕ) : Type 0 where
  pub others : List Leg
  pub after : legs_after ys next (left - 1) (Some (leg_of n).heading) ≡ found others rest
  pub whole : all ≡ leg_of n ∷ others

module _ {ys : List ℕ} {first legs : ℕ} {out : List ℕ} {at to left : ℕ} {now : List ℕ} (w : Writing ys first legs out at to left now) where
  pub writing-all : left ≡ 0 → now ≡ over out 0 (letters_from ys first legs)
  unfolding legs_after read_legs hops letters over
  writing-all e =
      let none_left : [] ≡ w.others = let r = rw e at w.after in cc in
      rw (← none_left) at w.leads

  module _ (more : 0 < left) where
    read_here : read_legs (suc (left - 1)) w.before (drop at ys) ≡ found w.others w.rest
    unfolding legs_after
    read_here =
        let one : left ≡ suc (left - 1) = omega arith in
        rw one at w.after

    -- no fault is met
    pub writing-fault : {A : Type 0} (why : LegRefusal) → number_told ys (Err why) ≡ number_from ys at → A
    unfolding number_told number_from
    writing-fault why t = fault-found (leg-unread (left - 1) w.before (drop at ys) (sym t)) read_here

    module _ (n next : ℕ) (t : number_told ys (Ok (n, next)) ≡ number_from ys at) where
      next-leg : Next ys left n next w.others w.rest
      unfolding number_told number_from legs_after leg_before
      next-leg =
          let number_read : read_number (drop at ys) ≡ found n (drop next ys) = sym t in
          elim (value (last_is w.before (leg_of n).heading)) [
            | inl r ↦ fault-found (leg-repeats (left - 1) w.before (drop at ys) number_read r) read_here
            | inr r ↦
                let d = leg-differs (left - 1) w.before (drop at ys) number_read r in
                elim (outcome (read_legs (left - 1) (Some (leg_of n).heading) (drop next ys))) [
                  | faulty k f ↦ fault-found {k = k} (d ∙ rw f) read_here
                  | read ls after f ↦
                      let all : found (leg_of n ∷ ls) after ≡ found w.others w.rest = sym (d ∙ rw f) ∙ read_here in
                      let same_rest : after ≡ w.rest = cc in
                      record { others = ls; after = f ∙ rw same_rest; whole = sym cc }
                ]
          ]

      pub leg-fits : to + (n / 4 + 1) ≤ length now
      unfolding hops leg_of
      leg-fits =
          let m = next-leg in
          let run = replicate (n / 4 + 1) (direction (n % 4)) in
          let room = rw m.whole at w.room in
          omega (arith, length-append run (hops m.others), length-replicate (n / 4 + 1) (direction (n % 4)))

      pub writing_more : {to' left' : ℕ} {now' : List ℕ} → left' ≡ left - 1 → Puts now to (replicate (n / 4 + 1) (letter (direction (n % 4)))) to' now' →
          Writing ys first legs out next to' left' now'
      unfolding hops leg_of
      writing_more {to'} {left'} {now'} g p =
          let m = next-leg in
          let run = replicate (n / 4 + 1) (direction (n % 4)) in
          let new = replicate (n / 4 + 1) (letter (direction (n % 4))) in
          let room-here = rw m.whole at w.room in
          let leads-here = rw (m.whole, letters-run (n / 4 + 1) (direction (n % 4)) (hops m.others)) at w.leads in
          let same_size : length now' ≡ length now = rw p.stands (over-length now to new) in
          record {
            before = Some (direction (n % 4));
            others = m.others;
            rest = w.rest;
            after = rw g m.after;
            size = same_size ∙ w.size;
            room =
                omega (
                  arith,
                  length-append run (hops m.others),
                  length-replicate (n / 4 + 1) (direction (n % 4)),
                  length-replicate (n / 4 + 1) (letter (direction (n % 4))),
                  p.next,
                );
            leads = rw (p.stands, p.next) (sym (over-append now to new (letters (hops m.others))) ∙ leads-here);
          }
