-- Bytes fed in turn: what is fed after other bytes starts where they left the reader. Assumes nothing.
use Rattle.std.proofs.Common.{◌≡◌, refl, inl, inr, true, false, List, [], ◌∷◌, ◌++◌, append-nil, append_assoc, ℕ, ◌+◌, ◌≤◌, arith, leb, length, get_or, take, length-append}
use Rattle.std.proofs.lemmas.Bool.{eq-eqb, lt-leb, leb-true}
use Rattle.mesh.proofs.Bools.{value, true-false}
use Rattle.sheet_words.specs.Words.{command_at}
use Rattle.theory_sheet.specs.Sheet.{State, change, answering, command_step}
use Rattle.theory_sheet.specs.Reader.{Reader, reading, Fed, after_line, feed, feed_all}
use Rattle.theory_sheet.proofs.Lines.{Unbroken}

-- one thing fed, and then another
abbrev pub fed_after : Fed → Fed → Fed
fed_after x y = record { printed = x.printed ++ y.printed; next = y.next }

-- a run that is over rests
pub rests : (r : Reader) (xs : List ℕ) → r.over ≡ true → feed_all r xs ≡ record { printed = []; next = r }
unfolding feed_all
rests r [] e = refl
rests r (x ∷ xs) e = rw e

-- one that is not over goes on
pub goes_on : (r : Reader) (x : ℕ) (xs : List ℕ) → r.over ≡ false → feed_all r (x ∷ xs) ≡ fed_after (feed r x) (feed_all (feed r x).next xs)
unfolding feed_all
goes_on r x xs e = rw e

pub chunks : (r : Reader) (xs ys : List ℕ) → feed_all r (xs ++ ys) ≡ fed_after (feed_all r xs) (feed_all (feed_all r xs).next ys)
unfolding feed_all
chunks r [] ys = refl
chunks r (x ∷ xs) ys =
    elim (value r.over) [
      | inl e ↦ rw (rests r (x ∷ (xs ++ ys)) e, rests r (x ∷ xs) e, rests r ys e)
      | inr e ↦ rw (goes_on r x (xs ++ ys) e, goes_on r x xs e, chunks (feed r x).next xs ys, append_assoc)
    ]

pub fed-one : (r : Reader) (bytes : List ℕ) → r.over ≡ false → 1 ≤ length bytes → feed_all r (take 1 bytes) ≡ feed r (get_or bytes 0 0)
unfolding feed_all
fed-one r [] on some = absurd (omega arith)
fed-one r (x ∷ xs) on some = rw (on, append-nil)

-- at most 20 bytes without a newline, then one: a whole line
pub line-fed : (n : ℕ) (t : State) (h xs : List ℕ) (x : ℕ) → Unbroken xs → x ≡ 10 → length h + length xs ≤ 20 →
    feed_all (reading n t h) (xs ++ (x ∷ [])) ≡ after_line n t (command_at n (h ++ xs))
unfolding Unbroken feed_all feed
line-fed n t h [] x u e l = rw (eq-eqb x 10 e, append-nil, append-nil)
line-fed n t h (y ∷ xs) x u e l =
    let rest = line-fed n t (h ++ (y ∷ [])) xs x u.1 e (rw length-append (omega arith)) in
    rw (u.0, lt-leb 20 (length h) (omega arith), rest, append_assoc h (y ∷ []) xs)

-- only a line that is at most the 65,535th lets the run go on
pub goes-on-early : (n : ℕ) (t : State) (text : List ℕ) → (command_step n t (command_at n text)).ends ≡ false → n ≤ 65535
unfolding command_step answering change command_at
goes-on-early n t text e =
    elim (value (leb n 65535)) [ inl f ↦ leb-true n 65535 f | inr f ↦ true-false refl (rw f at e) ]
