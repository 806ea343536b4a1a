-- The nodes before the first bad one are hops by rule 5; where there is none, rule 5 goes one hop west. Assumes nothing.
use Rattle.std.proofs.Common.{refl, ◌≡◌, arith}
use Rattle.mesh.specs.declared.Network.TheVariants.{First}
use Rattle.travel.proofs.Runs.{column-reaches, column-runs, leaves-column}
use Rattle.travel.proofs.column_leg.Goals as goal

pub count_free-hops-requires : goal.count_free-hops-requires
count_free-hops-requires c =
    let pre = c.requires in
    column-reaches First pre.0 (rw (← c.nodes.view_is) c.nodes.invariant) pre.1 c.abs_diff-n.ensures (c.toward-heading.ensures _ refl)

pub returns-then-hops-gt0 : goal.returns-then-hops-gt0
returns-then-hops-gt0 c =
    let pre = c.requires in (
      omega arith,
      λ network. column-runs network pre.0 (rw (← c.nodes.view_is) c.nodes.invariant) pre.1 c.abs_diff-n.ensures
          (c.toward-heading.ensures _ refl) c.count_free-hops.ensures,
    )

pub returns-else-hops-gt0 : goal.returns-else-hops-gt0
returns-else-hops-gt0 c =
    let pre = c.requires in
    let none : c.count_free-hops.result ≡ 0 = omega arith in (
      omega arith,
      λ network. leaves-column network pre.0 (rw (← c.nodes.view_is) c.nodes.invariant) pre.1 c.abs_diff-n.ensures
          (c.toward-heading.ensures _ refl) pre.2 (rw none at c.count_free-hops.ensures),
    )
