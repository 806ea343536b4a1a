-- A channel's ends, its reverse, and what may follow it. Assumes nothing.
use Rattle.std.proofs.Common.{Some, ◌≡◌, ◌≢◌, inl, inr, Bool, true, false, ℕ, ◌<◌}
use Rattle.std.proofs.lemmas.Bool.{cases_Bool, and_parts, not-true}
use Rattle.mesh.specs.Mesh.{Mesh, on_mesh}
use Rattle.mesh.specs.declared.Heading.{Heading}
use Rattle.mesh.specs.Headings.{opposite}
use Rattle.mesh.specs.Turns.{reverses, turns_back, hop_breaks, turn_breaks, forbidden, may_turn}
use Rattle.mesh.specs.Hops.{moved, stays}
use Rattle.mesh.proofs.Bools.{true-false}
use Rattle.mesh.proofs.Headings.{same_self, same-heading}
use Rattle.mesh.proofs.Hops.{on-mesh, stays_on}
use Rattle.theory_channels.specs.Channels.{Channel, is_channel, end_row, end_column, reverse, MayFollow}
use Rattle.theory_channels.specs.Rank.{Later, came, channel_rank}
use Rattle.theory_channels.specs.Claims.{Permitted}
use Rattle.theory_channels.proofs.Turns.{permitted-told, permitted-true}
use Rattle.theory_channels.proofs.Rank.{hop-later, later-rises}

-- a channel of the mesh
module _ (w : Mesh) (a : Channel) (e : is_channel w a ≡ true) where
  -- it starts on it,
  pub channel-starts : (a.row < w.rows) × (a.column < w.columns)
  unfolding is_channel
  channel-starts = on-mesh w a.row a.column (and_parts _ _ e).0

  -- a hop along it stays there,
  pub channel-stays : stays w.columns w.rows a.way a.row a.column ≡ true
  unfolding is_channel
  channel-stays = (and_parts (on_mesh w a.row a.column) _ e).1

  -- and it ends on it
  pub channel-ends : (end_row a < w.rows) × (end_column a < w.columns)
  unfolding end_row end_column
  channel-ends = let (i, j) = channel-starts in stays_on a.way i j channel-stays

pub same-channel : {r x c y : ℕ} {g h : Heading} → r ≡ x → c ≡ y → g ≡ h →
    ◌≡◌ {A = Channel} (record { row = r; column = c; way = g }) (record { row = x; column = y; way = h })
same-channel p q e = rw (p, q, e)

-- A channel that starts where another ends is its reverse exactly if its hop reverses the other's.
module _ (a b : Channel) where
  not-reverse : b.row ≡ end_row a → b.column ≡ end_column a → b ≢ reverse a → reverses a.way b.way ≡ false
  unfolding reverse reverses
  not-reverse r c n =
      elim (cases_Bool (reverses a.way b.way)) [ inl e ↦ absurd (n (same-channel r c (same-heading _ _ e))) | inr e ↦ e ]

  reverse-reverses : b ≡ reverse a → reverses a.way b.way ≡ true
  unfolding reverse reverses
  reverse-reverses e = rw e (same_self (opposite a.way))

-- Where a channel may follow another, its hop is permitted, and a packet that has come through both is later than after the first.
module _ (west : ℕ → Bool) (w : Mesh) (a b : Channel) (f : MayFollow west w a b) where
  turn-permitted : may_turn west (end_column a) (Some a.way) b.way ≡ true
  unfolding may_turn turns_back hop_breaks
  turn-permitted =
      let v = not-reverse a b f.row f.column f.no-reverse in
      let t : forbidden (turn_breaks west (end_column a) a.way b.way) ≡ false = rw (← f.column) f.permitted in
      rw (v, t)

  pub follower-permitted : Permitted west b.column (Some a.way) b.way
  follower-permitted = rw f.column (permitted-told west (end_column a) (Some a.way) b.way turn-permitted)

  came-next : came b ≡ moved b.way (came a)
  unfolding moved end_row end_column
  came-next = rw (f.row, f.column)

  follower-later : Later west w.columns w.rows (came a) (came b)
  follower-later =
      let (i, j) = channel-ends w a f.channel-a in
      let s : stays w.columns w.rows b.way (end_row a) (end_column a) ≡ true = rw (← f.row, ← f.column) (channel-stays w b f.channel-b) in
      rw came-next (hop-later west w.columns w.rows (came a) b.way i j s turn-permitted)

  pub follower-rises : channel_rank west w a < channel_rank west w b
  follower-rises = later-rises west w.columns w.rows (came a) (came b) (channel-ends w a f.channel-a).0 follower-later

-- A channel that starts where another ends may follow it if its hop is permitted.
pub permitted-follows : (west : ℕ → Bool) (w : Mesh) (a b : Channel) → is_channel w a ≡ true → is_channel w b ≡ true →
    b.row ≡ end_row a → b.column ≡ end_column a → Permitted west b.column (Some a.way) b.way → MayFollow west w a b
unfolding may_turn turns_back hop_breaks
permitted-follows west w a b i j row column p =
    let (v, u) = and_parts _ _ (permitted-true west b.column p) in
    record {
      channel-a = i;
      channel-b = j;
      row = row;
      column = column;
      no-reverse = λ e. true-false (reverse-reverses a b e) (not-true _ v);
      permitted = not-true _ u;
    }
