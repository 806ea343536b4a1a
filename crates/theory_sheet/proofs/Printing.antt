-- A reader that holds the bytes of an unfinished line prints what the definition does of those bytes and the rest: a newline makes them a line,
-- and no line of more than 20 bytes is well-formed, so it need not be held. Assumes nothing.
use Rattle.std.proofs.Common.{◌≡◌, refl, ◌∙◌, inl, inr, Bool, true, false, cond, List, [], ◌∷◌, ◌++◌, append-nil, append_assoc, ℕ, suc, ◌≤◌, ◌<◌, arith, leb, eqb, length, length-append, Option, None}
use Rattle.std.proofs.lemmas.Bool.{leb-true, leb-false}
use Rattle.mesh.proofs.Bools.{value}
use Rattle.sheet_words.specs.declared.Command.{Command}
use Rattle.sheet_words.specs.Words.{command_at}
use Rattle.sheet_words.proofs.Lengths.{long-malformed}
use Rattle.sheet_prints.specs.Prints.{line, line_word}
use Rattle.theory_sheet.specs.Sheet.{Line, lines_of, State, bad_line, change, answering, command_step, command_of, line_step, answers}
use Rattle.theory_sheet.specs.Reader.{Reader, reading, after_line, feed, feed_all, last_line, finish}
use Rattle.theory_sheet.proofs.Lines.{Unbroken, unbroken-more, lines-ended, lines-unended, FirstHas, first-has}
use Rattle.theory_sheet.proofs.Feeding.{rests, goes_on}

-- what a reader prints of the rest of a sheet
abbrev pub read_on : Reader → List ℕ → List ℕ
read_on r xs = (feed_all r xs).printed ++ finish (feed_all r xs).next

-- a byte, and then the rest
read_more : (r : Reader) (x : ℕ) (xs : List ℕ) → r.over ≡ false → read_on r (x ∷ xs) ≡ (feed r x).printed ++ read_on (feed r x).next xs
read_more r x xs e = rw (goes_on r x xs e, append_assoc)

-- at the end of the sheet: what is held is a line that is not ended
at_last : (n : ℕ) (t : State) (xs : List ℕ) → Unbroken xs → answers n t (lines_of xs) ≡ read_on (reading n t xs) []
unfolding lines_of answers line_step command_step answering change command_of feed_all finish last_line
at_last n t [] u = refl
at_last n t (x ∷ xs) u = rw (lines-unended x xs u, append-nil)

-- after a line that prints p, and ends the run or not
after_line_lem : (p : List ℕ) (n : ℕ) (t : State) (b : Bool) (xs : List ℕ) → answers n t (lines_of xs) ≡ read_on (reading n t []) xs →
    p ++ cond b [] (answers n t (lines_of xs)) ≡ p ++ read_on (record { number = n; state = t; held = []; over = b }) xs
unfolding finish
after_line_lem p n t true xs e = rw (rests (record { number = n; state = t; held = []; over = true }) xs refl)
after_line_lem p n t false xs e = rw e

long-command : (n : ℕ) (l : Line) → 20 < length l.text → command_of n l ≡ None
unfolding command_of command_at
long-command n l h = rw (long-malformed l.text h, either (leb n 65535), either l.ended)
  where
    either : (b : Bool) → cond {A = Option Command} b None None ≡ None
    either true = refl
    either false = refl

long-line : (n : ℕ) (t : State) (l : Line) → 20 < length l.text → line_step n t l ≡ bad_line n t
unfolding line_step command_step answering change
long-line n t l h = rw (long-command n l h)

long-answers : (m n : ℕ) (t : State) (ls : List Line) → 20 < m → FirstHas m ls → answers n t ls ≡ line line_word n
unfolding FirstHas answers
long-answers m n t [] g h = absurd (omega (arith, g, h))
long-answers m n t (l ∷ ls) g h = rw (long-line n t l (omega (arith, g, h)), append-nil)

-- after a bad line nothing is printed
bad-over : (n : ℕ) (t : State) (xs : List ℕ) → line line_word n ≡ (after_line n t None).printed ++ read_on (after_line n t None).next xs
unfolding command_step answering change finish
bad-over n t xs = rw (rests (record { number = suc n; state = t; held = []; over = true }) xs refl, append-nil)

-- what a reader prints that holds at most 20 bytes without a newline
pub reads : (n : ℕ) (t : State) (h xs : List ℕ) → Unbroken h → length h ≤ 20 → answers n t (lines_of (h ++ xs)) ≡ read_on (reading n t h) xs
unfolding Unbroken answers line_step command_of feed finish
reads n t h [] u l = rw append-nil (at_last n t h u)
reads n t h (x ∷ xs) u l =
    rw (read_more (reading n t h) x xs refl)
    (elim (value (eqb x 10)) [
      | inl e ↦
          let s = command_step n t (command_at n h) in
          rw (e, lines-ended h x xs u e)
          (after_line_lem s.printed (suc n) s.next s.ends xs (reads (suc n) s.next [] xs tt (omega arith)))
      | inr e ↦
          let h' = h ++ (x ∷ []) in
          let u' = unbroken-more h x u e in
          elim (value (leb 20 (length h))) [
            | inl m ↦
                let g : 20 < length h' = rw length-append (omega (arith, leb-true 20 (length h) m)) in
                rw (e, m, ← append_assoc h (x ∷ []) xs)
                (long-answers (length h') n t (lines_of (h' ++ xs)) g (first-has h' xs u') ∙ bad-over n t xs)
            | inr m ↦
                rw (e, m, ← append_assoc h (x ∷ []) xs)
                (reads n t h' xs u' (rw length-append (omega (arith, leb-false 20 (length h) m))))
          ]
    ])
