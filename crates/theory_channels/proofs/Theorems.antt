-- What is shown of channels, of packets that wait for them, and of how long a lawful walk can be (document 02, E9). Each theorem is proved in the
-- file that its proof cites. Example has hand-ins that do wait in a ring. Assumes nothing.
use Rattle.std.proofs.Common.{Option, Some, ◌≡◌, ◌↔◌, ◌≢◌, Bool, true, List, [], ◌∷◌, ℕ, ◌*◌, ◌≤◌, ◌<◌, arith, length, replicate}
use Rattle.mesh.specs.declared.Network.{Network}
use Rattle.mesh.specs.Mesh.{Mesh, mesh}
use Rattle.mesh.specs.declared.Heading.{Heading}
use Rattle.mesh.specs.Headings.{letters}
use Rattle.mesh.specs.Parity.{turns_west}
use Rattle.mesh.specs.Turns.{may_turn}
use Rattle.mesh.specs.Rules.{Trip}
use Rattle.mesh.specs.Hops.{At, moved, stays}
use Rattle.theory_blocks.specs.Obstacles.{Pairs}
use Rattle.theory_judging.specs.Claims.{lawful_hops}
use Rattle.theory_channels.specs.Chains.{Chain, one, NoRing}
use Rattle.theory_channels.specs.Channels.{Channel, end_row, end_column, is_channel, MayFollow}
use Rattle.theory_channels.specs.Waiting.{HandIn, Passed, channels, NextOnRoute, Waiting, WaitsFor, CanGoOn}
use Rattle.theory_channels.specs.Rank.{Later, rank, channel_rank}
use Rattle.theory_channels.specs.Claims.{Neighbours, Link, Permitted, OnMesh, most_lawful, PassedWith}
use Rattle.theory_channels.proofs.Chains.{chain-rises, rising-no-ring, no-ring-taken}
use Rattle.theory_channels.proofs.Linked.{linked-once}
use Rattle.theory_channels.proofs.Highest.{highest-of}
use Rattle.theory_channels.proofs.Turns.{permitted-told, permitted-true}
use Rattle.theory_channels.proofs.Links.{channel-link, neighbours-link}
use Rattle.theory_channels.proofs.Rank.{hop-later, later-rises}
use Rattle.theory_channels.proofs.Channels.{permitted-follows, follower-permitted, follower-rises}
use Rattle.theory_channels.proofs.Routes.{hops-linked}
use Rattle.theory_channels.proofs.Longest.{walk-short}
use Rattle.theory_channels.proofs.OnRoutes.{next-follows, leads-on}
use Rattle.theory_channels.proofs.HandIns.{passed-short, passed-few, longest}

-- the hops that are permitted after the last one
pub permitted-hops : (west : ℕ → Bool) (c : ℕ) (l : Option Heading) (h : Heading) → may_turn west c l h ≡ true ↔ Permitted west c l h
permitted-hops west c l h = (permitted-told west c l h, permitted-true west c)

-- Of a mesh of any size.
module _ (w : Mesh) where
  -- a channel's ends are neighbouring nodes, and what links neighbouring nodes is a channel
  pub channels-are-links : (a : Channel) → is_channel w a ≡ true ↔ Neighbours w a.row a.column (end_row a) (end_column a)
  channels-are-links = channel-link w

  -- from each node to each of its neighbours there is just one
  pub links-are-channels : (r c x y : ℕ) → Neighbours w r c x y → Link w r c x y
  links-are-channels = neighbours-link w

  -- a channel may follow the one that ends where it starts exactly if its hop is permitted after the other's
  pub follows-if-permitted : (west : ℕ → Bool) (a b : Channel) → is_channel w a ≡ true → is_channel w b ≡ true →
      b.row ≡ end_row a → b.column ≡ end_column a → MayFollow west w a b ↔ Permitted west b.column (Some a.way) b.way
  follows-if-permitted west a b i j row column = (follower-permitted west w a b, permitted-follows west w a b i j row column)

  -- the rank rises from each channel to every one that may follow it, whichever columns permit NW and SW
  pub rank_rises : (west : ℕ → Bool) (a b : Channel) → MayFollow west w a b → channel_rank west w a < channel_rank west w b
  rank_rises west = follower-rises west w

  -- so no chain of one or more steps, each to a channel that may follow, comes back to the channel it began with
  pub channels-form-no-ring : (west : ℕ → Bool) → NoRing (MayFollow west w)
  channels-form-no-ring west = rising-no-ring (channel_rank west w) (rank_rises west)

  -- on each network by itself
  pub networks-form-no-ring : (network : Network) → NoRing (MayFollow (turns_west network) w)
  networks-form-no-ring network = channels-form-no-ring (turns_west network)

-- Of a set of hand-ins on one mesh and map, all passed on one network.
module _ (network : Network) (columns rows : ℕ) (map : List ℕ) (Set : HandIn → Type 0)
    (all-passed : (h : HandIn) → Set h → Passed network columns rows map h) where
  -- on their routes each channel may follow the one before it
  pub next-may-follow : (a b : Channel) → NextOnRoute Set a b → MayFollow (turns_west network) (mesh columns rows map) a b
  next-may-follow = next-follows network columns rows map Set all-passed

  -- so no channels, each right after the one before it on some route, form a ring
  pub routes-form-no-ring : NoRing (NextOnRoute Set)
  routes-form-no-ring =
      no-ring-taken (λ a. a) (λ a b n. one (next-follows network columns rows map Set all-passed a b n)) (networks-form-no-ring (mesh columns rows map) network)

  -- where p waits for q, a chain of steps leads along q's route, from the channel that p waits for to the one that q waits for
  pub waiting-leads-on : (p q : Waiting Set) → WaitsFor Set p q → Chain (MayFollow (turns_west network) (mesh columns rows map)) p.wanted q.wanted
  waiting-leads-on = leads-on network columns rows map Set all-passed

  -- They can't wait in a ring: take packets, each of which holds channels in a row of its route and waits for the next channel, which the
  -- next packet holds; they never lead back to the first.
  pub passed-wait-in-no-ring : NoRing (WaitsFor Set)
  passed-wait-in-no-ring =
      no-ring-taken (λ p. p.wanted) (leads-on network columns rows map Set all-passed) (networks-form-no-ring (mesh columns rows map) network)

  -- and of waiting packets, however many, one can always go on
  pub some-can-go-on : (p : Waiting Set) (others : List (Waiting Set)) → CanGoOn Set (p ∷ others)
  some-can-go-on p others =
      let w = mesh columns rows map in
      let h = highest-of (λ q. channel_rank (turns_west network) w q.wanted) p others in
      record {
        packet = h.top;
        listed = h.member;
        free =
            λ q m s.
            let i = chain-rises (channel_rank (turns_west network) w) (rank_rises w (turns_west network)) (leads-on network columns rows map Set all-passed h.top q s) in
            absurd (omega (arith, h.highest q m));
      }

-- Of packets on a mesh of any size, with any bad nodes, and whichever columns permit NW and SW.
module _ (t : Trip) (p : At) (on : OnMesh t p) where
  -- a hop that stays on the mesh, is no reversal and makes no forbidden turn leads on in the order of `Rank`
  pub hop-is-later : (h : Heading) → stays t.columns t.rows h p.row p.column ≡ true → may_turn t.west p.column p.last h ≡ true →
      Later t.west t.columns t.rows p (moved h p)
  hop-is-later h = hop-later t.west t.columns t.rows p h on.row on.column

  -- and what is later has a higher rank
  pub later-is-higher : (q : At) → Later t.west t.columns t.rows p q → rank t.west t.columns t.rows p < rank t.west t.columns t.rows q
  later-is-higher q = later-rises t.west t.columns t.rows p q on.row

  module _ (hs : List Heading) (walked : lawful_hops t p hs ≡ true) where
    -- a lawful walk takes no channel twice
    pub no-channel-twice : Pairs ◌≢◌ (channels p (letters hs))
    no-channel-twice =
        linked-once (channels-form-no-ring (mesh t.columns t.rows []) t.west) (channels p (letters hs)) (hops-linked t [] p hs on walked)

    -- and has no more hops than along each column once, and through all columns there and back
    pub walks-are-short : length hs ≤ most_lawful t.columns t.rows
    walks-are-short = walk-short t p hs on walked

-- so a passed hand_in has no more letters, and on no mesh more than 4,158
pub passed-are-short : (network : Network) (columns rows : ℕ) (map : List ℕ) (h : HandIn) → Passed network columns rows map h →
    (length h.letters ≤ most_lawful columns rows) × (length h.letters ≤ 4158)
passed-are-short network columns rows map h (n, e) =
    (passed-short network columns rows map h e, passed-few network columns rows map h e)

-- and on each network, without faults and with two rows at least, one has as many; on 64 columns by 64 rows these are 4,158
pub longest-is-passed : (network : Network) (columns rows : ℕ) → 1 ≤ columns → columns ≤ 64 → 2 ≤ rows → rows ≤ 64 →
    PassedWith network columns rows (replicate (columns * rows) 0) (most_lawful columns rows)
longest-is-passed = longest

pub longest-of-all : (network : Network) → PassedWith network 64 64 (replicate 4096 0) 4158
longest-of-all network = longest network 64 64 (omega arith) (omega arith) (omega arith) (omega arith)
