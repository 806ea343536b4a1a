-- What is claimed of a walk by the hop rules. Assumes nothing.
use Rattle.std.specs.Prelude.{◌≡◌, true, false, List, ℕ, zero, suc, ◌≤◌, ◌<◌, length, get_or}
use Rattle.mesh.specs.declared.Heading.{Heading}
use Rattle.mesh.specs.Blocks.{Block}
use Rattle.mesh.specs.Rules.{Trip}
use Rattle.mesh.specs.Hops.{At, fresh, moved, lawful}
use Rattle.mesh.specs.Walk.{arrived, lawful_route, hop_at, bound}
use Rattle.mesh.specs.Mesh.{place}
use Rattle.theory_walk.specs.Course.{FreePlace}

-- hs leads lawfully from (r, c) to the destination, within the bound of demand 3
pub record Arrives (t : Trip) (bs : List Block) (r c : ℕ) (hs : List Heading) : Type 0 where
  pub route : lawful_route t (fresh (place r c)) hs ≡ true
  pub hops : length hs ≤ bound t bs r c

-- no bound is larger on a mesh of at most 64 columns and 64 rows: 63 + 63 + 2 + 62 x 63
abbrev pub most_hops : ℕ
most_hops = 4034

-- refusal 9 in its own words: before the packet arrives some hop by the rules is unlawful
pub data Fails (t : Trip) : At → Type 0 where
  now : {p : At} → arrived t p ≡ false → lawful t p (hop_at t p) ≡ false → Fails t p
  later : {p : At} → arrived t p ≡ false → lawful t p (hop_at t p) ≡ true → Fails t (moved (hop_at t p) p) → Fails t p

-- where the packet is after k hops by the rules from p
unfoldable pub reached : ℕ → Trip → At → At
reached zero t p = p
reached (suc k) t p = reached k t (moved (hop_at t p) p)

-- the packet, not yet arrived, makes the lawful hop h
pub record Hops (t : Trip) (p : At) (h : Heading) : Type 0 where
  pub not-arrived : arrived t p ≡ false
  pub by-rule : h ≡ hop_at t p
  pub lawfully : lawful t p h ≡ true

-- p after k of the hops hs: a free place; there the packet makes hop number k, counted from 0, or it has arrived
pub record OnTheWay (t : Trip) (hs : List Heading) (k : ℕ) (p : At) : Type 0 where
  pub place : FreePlace t p.row p.column
  pub hops : (d : Heading) → k < length hs → Hops t p (get_or hs k d)
  pub ends : k ≡ length hs → arrived t p ≡ true
