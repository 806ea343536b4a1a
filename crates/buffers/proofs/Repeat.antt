-- One byte written again and again. Assumes nothing.
use Rattle.std.proofs.Common.{◌≡◌, ℕ, ◌+◌, ◌-◌, ◌≤◌, List, [], ◌∷◌, length, min, refl, sym, ◌∙◌, arith}
use Prim.Native.Nat.{zero, suc}
use mathlib.Core.List.{append-nil}
use lib.ListN.{set, replicate, length-set, length-replicate, replicate-append-replicate, drop_of_length-le}
use Rattle.buffers.specs.Over.{over}
use Rattle.buffers.proofs.Over.{set_beyond, over-length, over-append, over-all}

-- what is written beyond the buffer's end changes nothing
pub over-beyond : (xs : List ℕ) (i : ℕ) (ys : List ℕ) → length xs ≤ i → xs ≡ over xs i ys
unfolding over
over-beyond xs i [] h = refl
over-beyond xs i (y ∷ ys) h =
    set_beyond xs i y h ∙ over-beyond (set xs i y) (i + 1) ys (rw (length-set xs i y) (omega arith))

-- of n bytes asked for k have room
pub over-cut : (xs : List ℕ) (i n k byte : ℕ) → k ≡ min n (length xs - i) → i ≤ length xs → over xs i (replicate k byte) ≡ over xs i (replicate n byte)
over-cut xs i n k byte e h =
    let more : k + (n - k) ≡ n = omega arith in
    rest (n - k) more
  where
    rest : (m : ℕ) → k + m ≡ n → over xs i (replicate k byte) ≡ over xs i (replicate n byte)
    rest zero q = let q' : k ≡ n = omega arith in rw q'
    rest (suc m) q =
        rw (← q, ← replicate-append-replicate k (suc m) byte, over-append xs i (replicate k byte) (replicate (suc m) byte), length-replicate k byte)
        (over-beyond (over xs i (replicate k byte)) (i + k) (replicate (suc m) byte) (rw (over-length xs i (replicate k byte)) (omega arith)))

-- the bytes before index i are written
pub filling_none : (xs : List ℕ) (at byte : ℕ) → xs ≡ over xs at (replicate (at - at) byte)
unfolding over
filling_none xs at byte = let none : at - at ≡ 0 = omega arith in rw none

pub filling-more : (xs : List ℕ) {now : List ℕ} (at byte i : ℕ) → at ≤ i → now ≡ over xs at (replicate (i - at) byte) →
    set now i byte ≡ over xs at (replicate (i + 1 - at) byte)
unfolding over
filling-more xs at byte i h e =
    let next : i + 1 - at ≡ (i - at) + 1 = omega arith in
    let here : at + (i - at) ≡ i = omega arith in
    rw (e, next, ← replicate-append-replicate (i - at) 1 byte)
    (sym (over-append xs at (replicate (i - at) byte) (replicate 1 byte) ∙ rw (length-replicate (i - at) byte, here)))

-- the whole buffer
pub over-same : (xs : List ℕ) (byte : ℕ) → over xs 0 (replicate (length xs) byte) ≡ replicate (length xs) byte
over-same xs byte =
    let size : length (replicate (length xs) byte) ≡ length xs = length-replicate (length xs) byte in
    over-all xs (replicate (length xs) byte) (omega arith) ∙ rw (size, drop_of_length-le xs {i = length xs} (omega arith), append-nil)
