-- What is shown of a judged hand-in (document 01, "Judge a hand-in"): xs are its bytes, t and p are what the hop rules look at. Assumes nothing.
use Rattle.std.specs.Prelude.{◌≡◌, Bool, true, false, ◌&&◌, List, [], ◌∷◌, ◌++◌, ℕ, ◌-◌, ◌≤◌, ◌<◌, length, get_or, take, Option, Some, None}
use Rattle.mesh.specs.declared.TurnRule.{TurnRule}
use Rattle.mesh.specs.declared.TurnRule.TheVariants.{Rule1, Rule2}
use Rattle.mesh.specs.declared.Heading.{Heading}
use Rattle.mesh.specs.declared.Heading.TheVariants.{East as E, North as N, South as S, West as W}
use Rattle.mesh.specs.declared.Network.{Network}
use Rattle.mesh.specs.declared.Place.{Place}
use Rattle.mesh.specs.Mesh.{mesh}
use Rattle.mesh.specs.Headings.{letters, named}
use Rattle.mesh.specs.Tests.{first}
use Rattle.mesh.specs.Rounds.{marked}
use Rattle.mesh.specs.Rules.{Trip, trip_on}
use Rattle.mesh.specs.Hops.{At, moved, stays, lawful}
use Rattle.mesh.specs.Walk.{arrived, lawful_route}
use Rattle.mesh.specs.Maps.{map_tests}
use Rattle.mesh.specs.Requests.{place_tests}
use Rattle.mesh.specs.Judging.{letter_mistake}

-- each of the hops is lawful in turn; unlike a lawful route, they may end anywhere
unfoldable pub lawful_hops : Trip → At → List Heading → Bool
lawful_hops t p [] = true
lawful_hops t p (h ∷ hs) = lawful t p h && lawful_hops t (moved h p) hs

-- the bytes are the letters of a lawful route from p
pub record LawfulHandIn (t : Trip) (p : At) (xs : List ℕ) : Type 0 where
  pub hops : List Heading
  pub spelled : letters hops ≡ xs
  pub route : lawful_route t p hops ≡ true

-- the packet after the hops
unfoldable pub after : List Heading → At → At
after [] p = p
after (h ∷ hs) p = after hs (moved h p)

-- a byte that is no lawful hop of a packet at p: no letter, or the letter of a hop that is not lawful
pub data NotLawful (t : Trip) (p : At) (x : ℕ) : Type 0 where
  no-letter : named x ≡ None → NotLawful t p x
  unlawful : (h : Heading) → named x ≡ Some h → lawful t p h ≡ false → NotLawful t p x

-- what is wrong where n letters have brought the packet to p: the letter of index n, by the number k of its mistake; or the end, by 16
pub data WentWrong (t : Trip) (p : At) (xs : List ℕ) (n k : ℕ) : Type 0 where
  at-letter : n < length xs → NotLawful t p (get_or xs n 0) → k ≡ letter_mistake t p (named (get_or xs n 0)) → WentWrong t p xs n k
  at-end : n ≡ length xs → arrived t p ≡ false → k ≡ 16 → WentWrong t p xs n k

-- the turns of rules 1 and 2 of document 001, in the columns where they are forbidden; `west` are those that permit NW and SW
pub data BreaksRule (west : ℕ → Bool) (c : ℕ) : Option TurnRule → Option Heading → Heading → Type 0 where
  EN : west c ≡ true → BreaksRule west c (Some Rule1) (Some E) N
  NW : west c ≡ false → BreaksRule west c (Some Rule1) (Some N) W
  ES : west c ≡ true → BreaksRule west c (Some Rule2) (Some E) S
  SW : west c ≡ false → BreaksRule west c (Some Rule2) (Some S) W

-- where n letters have brought the packet to p: the hop of the letter of index n stays on the mesh and breaks rule r
pub record LetterBreaks (t : Trip) (p : At) (xs : List ℕ) (n : ℕ) (r : Option TurnRule) : Type 0 where
  pub there : n < length xs
  pub hop : Heading
  pub spelled : named (get_or xs n 0) ≡ Some hop
  pub on-mesh : stays t.columns t.rows hop p.row p.column ≡ true
  pub broken : BreaksRule t.west p.column r p.last hop

-- with the first letter at index i: the letters before index j are lawful hops in turn, and something is wrong with the packet after them and
-- the letter of index j
pub record LawfulUpTo (t : Trip) (p : At) (i : ℕ) (xs : List ℕ) (j : ℕ) (Wrong : At → ℕ → Type 0) : Type 0 where
  pub hops : List Heading
  pub begun : i ≤ j
  pub spelled : letters hops ≡ take (j - i) xs
  pub hops-lawful : lawful_hops t p hops ≡ true
  pub wrong : Wrong (after hops p) (j - i)

-- k is wrong
abbrev pub FailedAt : Trip → At → ℕ → List ℕ → ℕ → ℕ → Type 0
FailedAt t p i xs k j = LawfulUpTo t p i xs j (λ q n. WentWrong t q xs n k)

-- rule r is broken
abbrev pub BrokeRuleAt : Trip → At → ℕ → List ℕ → Option TurnRule → ℕ → Type 0
BrokeRuleAt t p i xs r j = LawfulUpTo t p i xs j (λ q n. LetterBreaks t q xs n r)

-- The arguments of the operation: the number of the first of refusals 1 to 7 that applies, or 0;
abbrev pub refusal_of : ℕ → ℕ → List ℕ → Place → Place → ℕ
refusal_of columns rows map s d = first (map_tests columns rows map ++ place_tests (marked (mesh columns rows map)) s d)

-- and the marked mesh with the destination, and the network's turns.
abbrev pub trip_to : Network → ℕ → ℕ → List ℕ → Place → Trip
trip_to network columns rows map d = trip_on network (marked (mesh columns rows map)) d
