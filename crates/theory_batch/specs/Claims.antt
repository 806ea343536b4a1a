-- What is shown of a table of sends: each send as if alone, and its letters as a part of the output. Assumes nothing.
use Rattle.std.specs.Prelude.{◌≡◌, cond, List, [], ◌∷◌, ◌++◌, map, ℕ, ltb, length, take, drop}
use Rattle.mesh.specs.declared.Network.{Network}
use Rattle.mesh.specs.Numbers.{Answer}
use Rattle.theory_demands.specs.Demand3.{request_refusal, hops}
use Rattle.theory_batch.specs.declared.Send.{Send}
use Rattle.theory_batch.specs.Batch.{Call, call, letters_of}

module _ (network : Network) (columns rows : ℕ) (faults : List ℕ) where
  -- a single call of Route with room for its letters: refused by one of 1 to 9, or served
  unfoldable pub alone : Send → Call
  alone x =
      call (request_refusal network columns rows faults x.source x.destination) (hops network columns rows faults x.source x.destination)

  -- the room that the letters of all take
  unfoldable pub needed : List Send → ℕ
  needed xs = length (letters_of (map alone xs))

-- a call with an output gave this answer and left this in it
pub record Gives (c : Call) (out : List ℕ) (a : Answer) (after : List ℕ) : Type 0 where
  pub answers : a ≡ c.answer
  pub writes : after ≡ c.letters ++ drop (length c.letters) out

-- how many letters an answer tells of: a refusal tells of none
unfoldable pub told : ℕ → ℕ
told a = cond (ltb a 65536) a 0

-- the letters of each send, as parts of the output: found by the answers alone
unfoldable pub parts : List ℕ → List ℕ → List (List ℕ)
parts [] out = []
parts (a ∷ answers) out = take (told a) out ∷ parts answers (drop (told a) out)
