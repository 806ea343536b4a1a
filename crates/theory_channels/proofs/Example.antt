-- What judging is for: four hand-ins round a square on map A of document 01, one of which makes a forbidden turn, do wait in a ring. Assumes nothing.
use Rattle.std.proofs.Common.{◌≡◌, refl, List, [], ◌∷◌, ℕ}
use mathlib.Core.List.{Memᴰ}
use Rattle.mesh.specs.declared.Network.{Network}
use Rattle.mesh.specs.declared.Network.TheVariants.{First, Second}
use Rattle.mesh.specs.Mesh.{place, on_mesh}
use Rattle.mesh.specs.declared.Heading.{Heading}
use Rattle.mesh.specs.declared.Heading.TheVariants.{East as E, North as N, South as S, West as W}
use Rattle.mesh.specs.Headings.{letters, named, same, opposite, row_after, column_after}
use Rattle.mesh.specs.Parity.{turns_west}
use Rattle.mesh.specs.Tests.{first}
use Rattle.mesh.specs.Nodes.{is_bad, bad, ahead, upright, rule_a, rule_b, unsafe}
use Rattle.mesh.specs.Rounds.{become, advance, round, same_list, settle}
use Rattle.mesh.specs.Turns.{breaks, turn_breaks, hop_breaks, reverses, turns_back}
use Rattle.mesh.specs.Rules.{blocked, at_destination}
use Rattle.mesh.specs.Hops.{moved, stays}
use Rattle.mesh.specs.Walk.{arrived}
use Rattle.mesh.specs.Cases.{fault_map, A}
use Rattle.mesh.specs.Maps.{bad_size, bad_length, some, bad_byte, allowed, misplaced_at, misplaced, map_tests}
use Rattle.mesh.specs.Requests.{off_mesh, in_block, place_tests}
use Rattle.mesh.specs.Judging.{hop_tests, letter_mistake, follow, Verdict, passed, failed, unless, judge, judge_from, judgement}
use Rattle.mesh.proofs.Headings.{letter-named}
use Rattle.theory_channels.specs.Chains.{Chain, one, more}
use Rattle.theory_channels.specs.Waiting.{HandIn, verdict, Passed, through, channels, route, Waiting, WaitsFor}
use Rattle.theory_channels.proofs.Theorems.{passed-wait-in-no-ring}

-- a hand_in of two hops, g and then h
abbrev pub two : ℕ → ℕ → Heading → Heading → HandIn
two r c g h =
    record {
      source = place r c;
      destination = place (row_after h (row_after g r)) (column_after h (column_after g c));
      letters = letters (g ∷ h ∷ []);
    }

-- its packet holds the first channel and waits for the second
pub waiting : (Set : HandIn → Type 0) (r c : ℕ) (g h : Heading) → Set (two r c g h) → Waiting Set
unfolding route channels through follow moved letters
waiting Set r c g h m =
    record {
      hand_in = two r c g h;
      member = m;
      left = [];
      held = record { row = r; column = c; way = g } ∷ [];
      wanted = record { row = row_after g r; column = column_after g c; way = h };
      ahead = [];
      in_order = rw (letter-named g, letter-named h);
    }

-- the four, each from a corner of the square of rows 1 and 2 and columns 6 and 7
abbrev pub EN : HandIn
EN = two 1 6 E N

abbrev pub NW : HandIn
NW = two 1 7 N W

abbrev pub WS : HandIn
WS = two 2 7 W S

abbrev pub SE : HandIn
SE = two 2 6 S E

abbrev pub Four : HandIn → Type 0
Four h = Memᴰ h (EN ∷ NW ∷ WS ∷ SE ∷ [])

-- a packet on each
abbrev pub en : Waiting Four
en = waiting Four 1 6 E N (Memᴰ.head refl)

abbrev pub nw : Waiting Four
nw = waiting Four 1 7 N W (Memᴰ.tail (Memᴰ.head refl))

abbrev pub ws : Waiting Four
ws = waiting Four 2 7 W S (Memᴰ.tail (Memᴰ.tail (Memᴰ.head refl)))

abbrev pub se : Waiting Four
se = waiting Four 2 6 S E (Memᴰ.tail (Memᴰ.tail (Memᴰ.tail (Memᴰ.head refl))))

-- they wait in a ring
pub four-wait-in-a-ring : Chain (WaitsFor Four) en en
unfolding waiting row_after column_after
four-wait-in-a-ring =
    more {b = nw} (record { holds = Memᴰ.head refl })
    (more {b = ws} (record { holds = Memᴰ.head refl })
    (more {b = se} (record { holds = Memᴰ.head refl }) (one (record { holds = Memᴰ.head refl }))))

-- so on no mesh, map and network does judging pass all four
pub never-all-passed : (network : Network) (columns rows : ℕ) (map : List ℕ) → ((h : HandIn) → Four h → Passed network columns rows map h) → ⊥
never-all-passed network columns rows map all-passed = passed-wait-in-no-ring network columns rows map Four all-passed en four-wait-in-a-ring

-- Judging fails one of them, for its turn in column 7: NW on the first network, EN on the second.
abbrev judged : Network → HandIn → Verdict
judged network h = verdict network 10 8 (fault_map A) h

abbrev pub verdicts : Network → List Verdict
verdicts network = judged network EN ∷ judged network NW ∷ judged network WS ∷ judged network SE ∷ []

pub one-fails : (verdicts First ≡ passed 2 ∷ failed 14 1 ∷ passed 2 ∷ passed 2 ∷ []) × (verdicts Second ≡ failed 14 1 ∷ passed 2 ∷ passed 2 ∷ passed 2 ∷ [])
unfolding A on_mesh row_after column_after opposite letters same named turns_west first is_bad bad ahead upright rule_a rule_b unsafe become advance round
    same_list settle blocked moved stays breaks turn_breaks hop_breaks reverses turns_back arrived bad_size bad_length some bad_byte allowed misplaced_at
    misplaced map_tests off_mesh in_block place_tests hop_tests letter_mistake follow unless judge judge_from judgement at_destination
one-fails = (refl, refl)

-- Each of the four is passed on a network: hand-ins that are passed on different ones can wait in a ring, if they share channels.
abbrev pub PassedOn : Network → HandIn → Type 0
PassedOn network = Passed network 10 8 (fault_map A)

pub EN-passed : PassedOn First EN
EN-passed = (2, let e = one-fails.0 in cc)

pub NW-passed : PassedOn Second NW
NW-passed = (2, let e = one-fails.1 in cc)

pub WS-passed : PassedOn First WS
WS-passed = (2, let e = one-fails.0 in cc)

pub SE-passed : PassedOn First SE
SE-passed = (2, let e = one-fails.0 in cc)

pub each-passed-on-one : (h : HandIn) → Four h → (network : Network) × PassedOn network h
each-passed-on-one h (Memᴰ.head e) = rw e (First, EN-passed)
each-passed-on-one h (Memᴰ.tail (Memᴰ.head e)) = rw e (Second, NW-passed)
each-passed-on-one h (Memᴰ.tail (Memᴰ.tail (Memᴰ.head e))) = rw e (First, WS-passed)
each-passed-on-one h (Memᴰ.tail (Memᴰ.tail (Memᴰ.tail (Memᴰ.head e)))) = rw e (First, SE-passed)
each-passed-on-one h (Memᴰ.tail (Memᴰ.tail (Memᴰ.tail (Memᴰ.tail m)))) = elim m [ ]

-- The three that the first network passes do wait, in a line: WS for SE, and SE for EN.
pub passed-wait : Chain (WaitsFor (PassedOn First)) (waiting (PassedOn First) 2 7 W S WS-passed) (waiting (PassedOn First) 1 6 E N EN-passed)
unfolding waiting row_after column_after
passed-wait =
    more {b = waiting (PassedOn First) 2 6 S E SE-passed} (record { holds = Memᴰ.head refl }) (one (record { holds = Memᴰ.head refl }))
