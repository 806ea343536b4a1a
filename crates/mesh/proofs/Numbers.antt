-- The numbers of refusals are 1 to 10, no mistake has number 0; what a refusal answers and writes. Assumes nothing.
use Rattle.std.proofs.Common.{◌≡◌, refl, List, ℕ, zero, suc, pred, ◌≤◌, arith}
use Rattle.mesh.specs.declared.Refusal.{Refusal}
use Rattle.mesh.specs.declared.Refusal.TheVariants.{Columns, Rows, MapLength, MapByte, FaultPlace, OffMesh, InBlock, BlockNearInRow, Unlawful, Room}
use Rattle.mesh.specs.declared.Mistake.{Mistake}
use Rattle.mesh.specs.declared.Mistake.TheVariants.{NoLetter, LeavesMesh, Reverses, BreaksRule1, BreaksRule2, EntersBlock, NotArrived}
use Rattle.mesh.specs.Numbers.{number, mistake_number, refused, answer, answer_refusal, written}

pub number-some : (why : Refusal) → number why ≡ suc (pred (number why))
number-some Columns = refl
number-some Rows = refl
number-some MapLength = refl
number-some MapByte = refl
number-some FaultPlace = refl
number-some OffMesh = refl
number-some InBlock = refl
number-some BlockNearInRow = refl
number-some Unlawful = refl
number-some Room = refl

pub number-few : (why : Refusal) → number why ≤ 10
number-few Columns = omega arith
number-few Rows = omega arith
number-few MapLength = omega arith
number-few MapByte = omega arith
number-few FaultPlace = omega arith
number-few OffMesh = omega arith
number-few InBlock = omega arith
number-few BlockNearInRow = omega arith
number-few Unlawful = omega arith
number-few Room = omega arith

pub mistake-some : (m : Mistake) → mistake_number m ≡ suc (pred (mistake_number m))
mistake-some NoLetter = refl
mistake-some LeavesMesh = refl
mistake-some Reverses = refl
mistake-some BreaksRule1 = refl
mistake-some BreaksRule2 = refl
mistake-some EntersBlock = refl
mistake-some NotArrived = refl

pub answer-refusal : (k n : ℕ) → answer_refusal (answer k n) ≡ k
unfolding answer
answer-refusal zero n = refl
answer-refusal (suc k) n = refl

pub answer-refused : (why : Refusal) (n : ℕ) → answer (number why) n ≡ refused (number why)
unfolding answer
answer-refused why n = rw (number-some why)

pub written-refused : (why : Refusal) (new old : List ℕ) → written (number why) new old ≡ old
unfolding written
written-refused why new old = rw (number-some why)
