-- A line of more than 20 bytes says nothing: `send` and four spaced numbers of three digits are the longest. Assumes nothing.
use Rattle.std.proofs.Common.{◌≡◌, ℕ, zero, suc, ◌+◌, ◌≤◌, ◌<◌, Bool, true, false, cond, List, [], ◌∷◌, Option, None, Some, length, drop, eqb, refl, arith, length-drop}
use Rattle.sheet_words.specs.declared.Command.{Command}
use Rattle.sheet_words.specs.Words.{is_digit, Number, more, number, spaced, Two, second, first, two, ended, begins, mesh_word, fault_word, send_word, sizes, fault, send_to, send, command}

-- if there is a number, at least m bytes follow it
pub data Followed (m : ℕ) : Number → Type 0 where
  no_number : Followed m None
  after : {n : ℕ} {xs : List ℕ} → m ≤ length xs → Followed m (Some (n, xs))

pub data FollowedTwo (m : ℕ) : Two → Type 0 where
  no-two : FollowedTwo m None
  after_two : {a b : ℕ} {xs : List ℕ} → m ≤ length xs → FollowedTwo m (Some ((a, b), xs))

either : (P : Number → Type 0) (b : Bool) {x y : Number} → P x → P y → P (cond b x y)
either P true p q = p
either P false p q = q

module _ (m : ℕ) where
  more-followed : (k n : ℕ) (xs : List ℕ) → m + k ≤ length xs → Followed m (more k n xs)
  unfolding more
  more-followed zero n xs h = after {xs = xs} (omega arith)
  more-followed (suc k) n [] h = absurd (omega arith)
  more-followed (suc k) n (x ∷ xs) h = either (Followed m) (is_digit x) (more-followed k _ xs (omega arith)) (after {xs = x ∷ xs} (omega arith))

  number-followed : (xs : List ℕ) → m + 3 ≤ length xs → Followed m (number xs)
  unfolding number
  number-followed [] h = no_number
  number-followed (x ∷ xs) h = either (Followed m) (is_digit x) (more-followed 2 _ xs (omega arith)) no_number

  spaced-followed : (xs : List ℕ) → m + 4 ≤ length xs → Followed m (spaced xs)
  unfolding spaced
  spaced-followed [] h = no_number
  spaced-followed (x ∷ xs) h = either (Followed m) (eqb x 32) (number-followed xs (omega arith)) no_number

  second-followed : (a : ℕ) {t : Number} → Followed m t → FollowedTwo m (second a t)
  unfolding second
  second-followed a no_number = no-two
  second-followed a (after h) = after_two h

  first-followed : {t : Number} → Followed (m + 4) t → FollowedTwo m (first t)
  unfolding first
  first-followed no_number = no-two
  first-followed (after h) = second-followed _ (spaced-followed _ h)

pub two-followed : (m : ℕ) (xs : List ℕ) → m + 8 ≤ length xs → FollowedTwo m (two xs)
unfolding two
two-followed m xs h = first-followed m (spaced-followed (m + 4) xs (omega arith))

-- what something follows is not at the end
followed-ended : {t : Two} → FollowedTwo 1 t → ended t ≡ None
unfolding ended
followed-ended no-two = refl
followed-ended (after_two {xs = []} h) = absurd (omega arith)
followed-ended (after_two {xs = x ∷ xs} h) = refl

long-ended : (xs : List ℕ) → 9 ≤ length xs → ended (two xs) ≡ None
long-ended xs h = followed-ended (two-followed 1 xs (omega arith))

long-send : {t : Two} → FollowedTwo 9 t → send t ≡ None
unfolding send send_to
long-send no-two = refl
long-send (after_two h) = rw (long-ended _ h)

pub long-malformed : (xs : List ℕ) → 20 < length xs → command xs ≡ None
unfolding command sizes fault
long-malformed xs h =
    rw (long-ended (drop 4 xs) (simp length-drop (omega arith)), long-ended (drop 5 xs) (simp length-drop (omega arith)), long-send (two-followed 9 (drop 4 xs) (simp length-drop (omega arith))))
    (same (begins mesh_word xs) (same (begins fault_word xs) (same (begins send_word xs) refl)))
  where
    same : (b : Bool) {x : Option Command} → x ≡ None → cond b None x ≡ None
    same true e = refl
    same false e = e
