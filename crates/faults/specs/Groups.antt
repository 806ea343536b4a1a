-- Faults of a map of which each is less than 3 from the next. Assumes nothing.
use Rattle.std.specs.Prelude.{◌≡◌, Bool, true, false, ◌&&◌, Option, None, Some, List, ℕ, ◌+◌, ◌<◌, ltb, get_or}
use Rattle.mesh.specs.Nodes.{is_bad}

-- there is a fault at index i, before index end
unfoldable pub fault_before : List ℕ → ℕ → ℕ → Bool
fault_before map end i = ltb i end && is_bad (get_or map i 0)

-- k is the next fault after index i, less than 3 from it and before index end
pub record Next (map : List ℕ) (end i k : ℕ) : Type 0 where
  pub later : i < k
  pub near : k < i + 3
  pub inside : k < end
  pub fault : is_bad (get_or map k 0) ≡ true
  pub none_between : (j : ℕ) → i < j → j < k → is_bad (get_or map j 0) ≡ false

-- there is no such fault
pub record NoneNear (map : List ℕ) (end i : ℕ) : Type 0 where
  pub one_on : fault_before map end (i + 1) ≡ false
  pub two-on : fault_before map end (i + 2) ≡ false

-- such a fault, if there is one
abbrev pub Near : List ℕ → ℕ → ℕ → Option ℕ → Type 0
Near map end i None = NoneNear map end i
Near map end i (Some k) = Next map end i k

-- from one fault to the next, any number of times
pub data Chain (map : List ℕ) (end i : ℕ) : ℕ → Type 0 where
  alone : i < end → Chain map end i i
  more : {j k : ℕ} → Chain map end i j → Next map end j k → Chain map end i k

-- as far as they go
pub record Group (map : List ℕ) (end i k : ℕ) : Type 0 where
  pub chain : Chain map end i k
  pub last : NoneNear map end k
