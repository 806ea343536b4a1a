-- Channels are the links between neighbouring nodes, one each way. Assumes nothing.
use Rattle.std.proofs.Common.{◌≡◌, refl, ◌↔◌, true, ℕ, zero, suc, ◌<◌, add-one, sub-one, arith, leb-true, le-leb, lt-ltb}
use Rattle.std.proofs.lemmas.Bool.{and_from}
use Rattle.mesh.specs.Mesh.{Mesh}
use Rattle.mesh.specs.declared.Heading.{Heading}
use Rattle.mesh.specs.declared.Heading.TheVariants.{East as E, North as N, South as S, West as W}
use Rattle.mesh.specs.Headings.{row_after, column_after}
use Rattle.mesh.specs.Hops.{stays}
use Rattle.mesh.proofs.Hops.{on-mesh, is-on-mesh}
use Rattle.theory_blocks.specs.Blocks.{Neighbour, north, south, east, west}
use Rattle.theory_channels.specs.Channels.{Channel, end_row, end_column, is_channel}
use Rattle.theory_channels.specs.Claims.{Neighbours, Link}
use Rattle.theory_channels.proofs.Channels.{channel-starts, channel-stays, channel-ends, same-channel}

-- a node is no neighbour of itself
not_itself : {r c x y : ℕ} → Neighbour r c x y → r ≡ x → c ≡ y → ⊥
not_itself north e f = absurd (omega arith)
not_itself south e f = absurd (omega arith)
not_itself east e f = absurd (omega arith)
not_itself west e f = absurd (omega arith)

-- the way from a node to its neighbour
way : {r c x y : ℕ} → Neighbour r c x y → Heading
way north = N
way south = S
way east = E
way west = W

way-leads : {r c x y : ℕ} (n : Neighbour r c x y) → (row_after (way n) r ≡ x) × (column_after (way n) c ≡ y)
unfolding way row_after column_after
way-leads north = (omega arith, refl)
way-leads south = (omega arith, refl)
way-leads east = (refl, omega arith)
way-leads west = (refl, omega arith)

no-other-way : {r c x y : ℕ} (n : Neighbour r c x y) (h : Heading) → row_after h r ≡ x → column_after h c ≡ y → h ≡ way n
unfolding way row_after column_after
no-other-way north E e f = absurd (omega arith)
no-other-way north N e f = refl
no-other-way north S e f = absurd (omega arith)
no-other-way north W e f = absurd (omega arith)
no-other-way south E e f = absurd (omega arith)
no-other-way south N e f = absurd (omega arith)
no-other-way south S e f = refl
no-other-way south W e f = absurd (omega arith)
no-other-way east E e f = refl
no-other-way east N e f = absurd (omega arith)
no-other-way east S e f = absurd (omega arith)
no-other-way east W e f = absurd (omega arith)
no-other-way west E e f = absurd (omega arith)
no-other-way west N e f = absurd (omega arith)
no-other-way west S e f = absurd (omega arith)
no-other-way west W e f = refl

module _ (columns rows : ℕ) where
  -- a hop that stays on the mesh leads to a neighbour, and no other does
  stays-near : (h : Heading) (r c : ℕ) → stays columns rows h r c ≡ true → Neighbour r c (row_after h r) (column_after h c)
  unfolding stays row_after column_after
  stays-near E r c s = rw add-one east
  stays-near N r c s = rw add-one north
  stays-near S zero c s = absurd (omega (arith, leb-true 1 0 s))
  stays-near S (suc r) c s = rw sub-one south
  stays-near W r zero s = absurd (omega (arith, leb-true 1 0 s))
  stays-near W r (suc c) s = rw sub-one west

  near-stays : (h : Heading) (r c : ℕ) → row_after h r < rows → column_after h c < columns → Neighbour r c (row_after h r) (column_after h c) →
      stays columns rows h r c ≡ true
  unfolding stays row_after column_after
  near-stays E r c i j n = lt-ltb _ _ j
  near-stays N r c i j n = lt-ltb _ _ i
  near-stays S zero c i j n = absurd (not_itself n refl refl)
  near-stays S (suc r) c i j n = le-leb 1 (suc r) (omega arith)
  near-stays W r zero i j n = absurd (not_itself n refl refl)
  near-stays W r (suc c) i j n = le-leb 1 (suc c) (omega arith)

module _ (w : Mesh) where
  pub channel-link : (a : Channel) → is_channel w a ≡ true ↔ Neighbours w a.row a.column (end_row a) (end_column a)
  unfolding is_channel end_row end_column
  channel-link a = (
    λ e.
        let (i, j) = channel-starts w a e in
        let (x, y) = channel-ends w a e in
        record {
          first = is-on-mesh w _ _ i j;
          second = is-on-mesh w _ _ x y;
          near = stays-near w.columns w.rows a.way a.row a.column (channel-stays w a e);
        },
    λ n.
        let (x, y) = on-mesh w _ _ n.second in
        and_from _ _ n.first (near-stays w.columns w.rows a.way a.row a.column x y n.near),
  )

  pub neighbours-link : (r c x y : ℕ) → Neighbours w r c x y → Link w r c x y
  unfolding end_row end_column
  neighbours-link r c x y n =
      let (p, q) = way-leads n.near in
      let a : Channel = record { row = r; column = c; way = way n.near } in
      record {
        channel = a;
        of-mesh = (channel-link a).1 (rw (p, q) n);
        from_row = refl;
        from-column = refl;
        to_row = p;
        to-column = q;
        only = λ b i j k l. same-channel i j (no-other-way n.near b.way (rw (← i) k) (rw (← j) l));
      }
