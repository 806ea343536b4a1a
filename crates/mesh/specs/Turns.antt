-- The turn rules (document 01, "Turns"; rules 1 and 2 of document 001). A turn is named by the hop before and the hop after; its column is
-- that of the node between them. The columns that permit NW and SW are left open: `west`. Assumes nothing.
use Rattle.std.specs.Prelude.{Bool, false, true, not, cond, ◌&&◌, ◌||◌, ℕ, Option, Some, None}
use Rattle.mesh.specs.declared.TurnRule.{TurnRule}
use Rattle.mesh.specs.declared.TurnRule.TheVariants.{Rule1, Rule2}
use Rattle.mesh.specs.Headings.{Heading, E, N, S, W, opposite, same}

-- the rule about a, which is N or S, is broken: turning from E to a is forbidden in the columns `west`, from a to W in the others
unfoldable pub breaks : Heading → (ℕ → Bool) → ℕ → Heading → Heading → Bool
breaks a west c g h = (same g E && (same h a && west c)) || (same g a && (same h W && not (west c)))

-- the rule that a turn breaks: rule 1 is about EN and NW, rule 2 about ES and SW; WN and WS are free everywhere
unfoldable pub turn_breaks : (ℕ → Bool) → ℕ → Heading → Heading → Option TurnRule
turn_breaks west c g h = cond (breaks N west c g h) (Some Rule1) (cond (breaks S west c g h) (Some Rule2) None)

-- the rule that a hop breaks after the last one; the first hop makes no turn
unfoldable pub hop_breaks : (ℕ → Bool) → ℕ → Option Heading → Heading → Option TurnRule
hop_breaks west c None h = None
hop_breaks west c (Some g) h = turn_breaks west c g h

-- rule 1 is broken
abbrev pub is_rule1 : Option TurnRule → Bool
is_rule1 None = false
is_rule1 (Some Rule1) = true
is_rule1 (Some Rule2) = false

-- rule 2 is broken
abbrev pub is_rule2 : Option TurnRule → Bool
is_rule2 None = false
is_rule2 (Some Rule1) = false
is_rule2 (Some Rule2) = true

-- forbidden: some rule is broken
abbrev pub forbidden : Option TurnRule → Bool
forbidden b = is_rule1 b || is_rule2 b

-- reversing is forbidden everywhere, by neither rule
unfoldable pub reverses : Heading → Heading → Bool
reverses g h = same h (opposite g)

-- the hop reverses the last one
unfoldable pub turns_back : Option Heading → Heading → Bool
turns_back None h = false
turns_back (Some g) h = reverses g h

-- a hop in column c after the last one: no reversal, no forbidden turn
unfoldable pub may_turn : (ℕ → Bool) → ℕ → Option Heading → Heading → Bool
may_turn west c l h = not (turns_back l h) && not (forbidden (hop_breaks west c l h))
