-- Calls of Route, and the sends of a table in turn. Assumes nothing.
use Rattle.std.proofs.Common.{◌≡◌, refl, ap, List, [], ◌∷◌, ◌++◌, ℕ, zero, suc, length, drop}
use Rattle.mesh.specs.Numbers.{written}
use Rattle.theory_batch.specs.declared.Send.{Send}
use Rattle.theory_batch.specs.Batch.{Call, unless_refused, calls, answers_of}

-- what stands in an output: the letters, and what lies after them
pub written-unless : (k : ℕ) (new old : List ℕ) → written k new old ≡ unless_refused k new ++ drop (length (unless_refused k new)) old
unfolding written unless_refused
written-unless zero new old = refl
written-unless (suc k) new old = refl

pub answers-length : (f : Send → List ℕ → Call) (xs : List Send) (out : List ℕ) → length (answers_of (calls f xs out)) ≡ length xs
unfolding calls answers_of
answers-length f [] out = refl
answers-length f (x ∷ xs) out = ap suc (answers-length f xs (drop (length (f x out).letters) out))

-- calls that do the same make the same table
pub calls-agree : (f g : Send → List ℕ → Call) → ((x : Send) (free : List ℕ) → f x free ≡ g x free) → (xs : List Send) (out : List ℕ) →
    calls f xs out ≡ calls g xs out
unfolding calls
calls-agree f g same [] out = refl
calls-agree f g same (x ∷ xs) out =
    rw (same x out) (ap (λ cs. g x out ∷ cs) (calls-agree f g same xs (drop (length (g x out).letters) out)))
