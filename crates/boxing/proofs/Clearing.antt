-- Zeros in a part of a list. Assumes nothing.
use Rattle.std.proofs.Common.{◌≡◌, List, ℕ, ◌-◌, ◌≤◌, ◌<◌, length, get_or, replicate, rules, arith}
use Rattle.std.proofs.lemmas.List.{places}
use borrow.Rule.Slice.PartMut.{put_mid, mid_of}
use lib.ListN.{length-take, length-drop, length-append, length-replicate}

-- the numbers from index i to before index k are 0, the others as they were
pub record Cleared (xs : List ℕ) (i k : ℕ) (ys : List ℕ) : Type 0 where
  pub size : length ys ≡ length xs
  pub clear : (j : ℕ) → i ≤ j → j < k → get_or ys j 0 ≡ 0
  pub before : (j : ℕ) → j < i → get_or ys j 0 ≡ get_or xs j 0
  pub after : (j : ℕ) → k ≤ j → get_or ys j 0 ≡ get_or xs j 0

pub cleared-part : (xs zs : List ℕ) (i k : ℕ) → i ≤ k → k ≤ length xs → zs ≡ replicate (length (mid_of i (k - i) xs)) 0 →
    Cleared xs i k (put_mid i (k - i) xs zs)
cleared-part xs zs i k p q e =
    let part : length (mid_of i (k - i) xs) ≡ k - i = simp (length-take, length-drop) (omega arith) in
    let zeros : zs ≡ replicate (k - i) 0 = rw (← part) e in
    record {
      size = simp (zeros, length-append, length-replicate, length-take, length-drop) (omega arith);
      clear = λ j a b. rw zeros (search (rules, places));
      before = λ j a. rw zeros (search (rules, places));
      after = λ j a. rw zeros (search (rules, places));
    }
