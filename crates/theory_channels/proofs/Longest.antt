-- A lawful walk has no more hops than the stages of `Rank` have room for. Assumes nothing.
use Rattle.std.proofs.Common.{◌≡◌, true, List, [], ◌∷◌, ℕ, ◌+◌, ◌-◌, ◌*◌, ◌≤◌, ◌<◌, mul-le-mul_right, arith, length}
use Rattle.std.proofs.lemmas.Bool.{and_parts}
use Rattle.mesh.specs.declared.Heading.{Heading}
use Rattle.mesh.specs.Rules.{Trip}
use Rattle.mesh.specs.Hops.{At, moved, lawful}
use Rattle.mesh.proofs.Hops.{lawful-stays, lawful-turns}
use Rattle.theory_judging.specs.Claims.{lawful_hops}
use Rattle.theory_channels.specs.Rank.{stage_of, climb_of}
use Rattle.theory_channels.specs.Claims.{OnMesh, most_lawful}
use Rattle.theory_channels.proofs.Rank.{hop-later, rises-to, counts_up}
use Rattle.theory_channels.proofs.Stages.{start, start-rises, climb-fits, stage-low, all-stages}
use Rattle.theory_channels.proofs.Routes.{lawful-on}

module _ (t : Trip) where
  -- no packet makes more hops before it is at p
  before : At → ℕ
  before p = start t (stage_of t.west t.columns p) + climb_of t.rows p

  before-rises : (p : At) (h : Heading) → OnMesh t p → lawful t p h ≡ true → before p < before (moved h p)
  unfolding before
  before-rises p h o l =
      let later = hop-later t.west t.columns t.rows p h o.row o.column (lawful-stays t p h l) (lawful-turns t p h l) in
      counts_up (start t) (start-rises t) _ _ _ _ later.no-earlier later.climbs (climb-fits t p.last o.row o.column)

  before-low : (p : At) → OnMesh t p → before p ≤ most_lawful t.columns t.rows
  unfolding before
  before-low p o =
      let all = all-stages t (omega (arith, o.column)) in
      let last = rises-to (start t) (start-rises t) _ _ (stage-low t p.last o.column) in
      omega (arith, climb-fits t p.last o.row o.column)

  walk-fits : (p : At) (hs : List Heading) → OnMesh t p → lawful_hops t p hs ≡ true → before p + length hs ≤ most_lawful t.columns t.rows
  unfolding lawful_hops
  walk-fits p [] o e = omega (arith, before-low p o)
  walk-fits p (h ∷ hs) o e =
      let (l, more) = and_parts (lawful t p h) _ e in
      omega (arith, before-rises p h o l, walk-fits (moved h p) hs (lawful-on t p h o l) more)

  pub walk-short : (p : At) (hs : List Heading) → OnMesh t p → lawful_hops t p hs ≡ true → length hs ≤ most_lawful t.columns t.rows
  walk-short p hs o e = omega (arith, walk-fits p hs o e)

-- on any mesh of document 01
pub most-of-all : (columns rows : ℕ) → columns ≤ 64 → rows ≤ 64 → most_lawful columns rows ≤ most_lawful 64 64
most-of-all columns rows i j =
    let k : columns * (rows - 1) ≤ 64 * (rows - 1) = mul-le-mul_right (rows - 1) i in
    omega arith
