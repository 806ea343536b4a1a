-- Bytes copied into a buffer. Assumes nothing.
use Rattle.std.proofs.Common.{◌≡◌, ℕ, ◌+◌, ◌<◌, ◌≤◌, List, [], ◌∷◌, length, refl, arith}
use Rattle.std.proofs.lemmas.List.{drop-drop}
use borrow.Rule.Slice.PartMut.{put_mid}
use lib.ListN.{set}
use Rattle.buffers.specs.Over.{over, Puts}
use Rattle.buffers.proofs.Over.{over-from}

pub puts-byte : (out : List ℕ) (at byte : ℕ) → at < length out → Puts out at (byte ∷ []) (at + 1) (set out at byte)
unfolding over
puts-byte out at byte h = record { next = refl; stands = refl; fits = omega arith }

-- what a write to a part of a buffer leaves
pub part-over : (xs : List ℕ) (i k : ℕ) (ys : List ℕ) → k ≡ length ys → i + k ≤ length xs → put_mid i k xs ys ≡ over xs i ys
part-over xs i k ys e h = rw (over-from xs i ys (omega arith), drop-drop k i xs, e)

pub puts-part : (out : List ℕ) (at k : ℕ) {from ys : List ℕ} → ys ≡ from → k ≡ length from → at + k ≤ length out → Puts out at from (at + length from) (put_mid at k out ys)
puts-part out at k {from} q e h = record { next = refl; stands = rw q (part-over out at k from e h); fits = omega arith }
