-- What is shown of reading a sheet byte by byte. Each theorem is proved in the file that its proof cites. Assumes nothing.
use Rattle.std.proofs.Common.{◌≡◌, true, List, [], ◌++◌, ℕ, ◌≤◌, arith, length}
use Rattle.theory_sheet.specs.Sheet.{nothing, sheet}
use Rattle.theory_sheet.specs.Reader.{Reader, begun, feed_all, finish}
use Rattle.theory_sheet.proofs.Lines.{Unbroken}
use Rattle.theory_sheet.proofs.Feeding.{rests, chunks}
use Rattle.theory_sheet.proofs.Printing.{reads}
use Rattle.theory_sheet.proofs.Progress.{run_ends}

-- the bytes of a sheet in turn, and its end, print what is defined
pub read-is-sheet : (xs : List ℕ) → sheet xs ≡ (feed_all begun xs).printed ++ finish (feed_all begun xs).next
unfolding sheet Unbroken
read-is-sheet xs = reads 1 nothing [] xs tt (omega arith)

-- a sheet in two parts is read as the whole: the parts may be of any size
pub feed-chunks : (r : Reader) (xs ys : List ℕ) → feed_all r (xs ++ ys) ≡
    record { printed = (feed_all r xs).printed ++ (feed_all (feed_all r xs).next ys).printed; next = (feed_all (feed_all r xs).next ys).next }
feed-chunks = chunks

-- once the run is over, nothing is printed and nothing changes
pub over-rests : (r : Reader) (xs : List ℕ) → r.over ≡ true → feed_all r xs ≡ record { printed = []; next = r }
over-rests = rests

-- a run is over after 65,536 lines of 20 bytes and a newline at the latest: so the program stops, however much it is sent
pub runs-end : (xs : List ℕ) → 1376256 ≤ length xs → (feed_all begun xs).next.over ≡ true
runs-end = run_ends
