-- Each byte brings the run nearer to its end: it has at most 65,536 lines, of each of which at most 20 bytes and a newline are taken. Assumes nothing.
use Rattle.std.proofs.Common.{◌≡◌, refl, inl, inr, true, false, List, [], ◌∷◌, ◌++◌, ℕ, ◌+◌, ◌-◌, ◌*◌, ◌≤◌, ◌<◌, arith, leb, eqb, length, length-append}
use Rattle.std.proofs.lemmas.Bool.{leb-false}
use Rattle.mesh.proofs.Bools.{value, true-false}
use Rattle.theory_sheet.specs.Sheet.{change, answering, command_step}
use Rattle.theory_sheet.specs.Reader.{Reader, begun, feed, feed_all}
use Rattle.theory_sheet.proofs.Feeding.{rests, goes_on, goes-on-early}

-- the reader is in a line that is at most the 65,536th, of which it holds at most 20 bytes
pub record Within (r : Reader) : Type 0 where
  pub few : r.number ≤ 65536
  pub short : length r.held ≤ 20

-- how many bytes it can take yet
abbrev pub most : Reader → ℕ
most r = (65537 - r.number) * 21 - length r.held

feed-less : (r : Reader) (x : ℕ) → Within r → (feed r x).next.over ≡ false → Within (feed r x).next × (most (feed r x).next < most r)
unfolding feed command_step answering change
feed-less r x w on =
    elim (value (eqb x 10)) [
      | inl e ↦
          let few = goes-on-early r.number r.state r.held (rw e at on) in
          rw e (record { few = omega arith; short = omega arith }, omega (arith, w.short))
      | inr e ↦
          elim (value (leb 20 (length r.held))) [
            | inl l ↦ true-false refl (rw (e, l) at on)
            | inr l ↦
                let more : length (r.held ++ (x ∷ [])) ≡ length r.held + 1 = length-append r.held (x ∷ []) in
                let less = leb-false 20 (length r.held) l in
                rw (e, l) (record { few = w.few; short = omega (arith, more) }, omega (arith, more, w.few))
          ]
    ]

-- after bytes that do not end the run so many fewer can be taken
pub feed-all-less : (r : Reader) (xs : List ℕ) → Within r → r.over ≡ false → (feed_all r xs).next.over ≡ false →
    Within (feed_all r xs).next × (most (feed_all r xs).next + length xs ≤ most r)
unfolding feed_all
feed-all-less r [] w on end = (w, omega arith)
feed-all-less r (x ∷ xs) w on end =
    let further = goes_on r x xs on in
    let end' = rw further at end in
    elim (value (feed r x).next.over) [
      | inl over ↦ true-false over (rw (rests (feed r x).next xs over) at end')
      | inr still ↦
          let (w', less) = feed-less r x w still in
          let (end-within, rest) = feed-all-less (feed r x).next xs w' still end' in
          rw further (end-within, omega arith)
    ]

pub run_ends : (xs : List ℕ) → 1376256 ≤ length xs → (feed_all begun xs).next.over ≡ true
run_ends xs many =
    elim (value (feed_all begun xs).next.over) [
      | inl over ↦ over
      | inr still ↦
          let (end-within, less) = feed-all-less begun xs (record { few = omega arith; short = omega arith }) refl still in
          absurd (omega (arith, end-within.few, end-within.short))
    ]
