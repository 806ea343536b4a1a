-- A lawful hop from a place of the mesh lands on it. Assumes nothing.
use Rattle.std.proofs.Common.{◌≡◌, true, arith}
use Rattle.std.proofs.lemmas.Bool.{leb-true}
use Rattle.mesh.specs.declared.Heading.{Heading}
use Rattle.mesh.specs.declared.Packet.{Packet}
use Rattle.mesh.specs.declared.Place.{Place}
use Rattle.mesh.specs.Mesh.{Mesh, place}
use Rattle.mesh.specs.Headings.{row_after, column_after}
use Rattle.mesh.specs.Hops.{moved, stays, moved_packet}
use Rattle.mesh.proofs.Hops as hops
use Rattle.nodes.specs.Sized.{Sized, OnMesh}
use Rattle.hops.specs.Moved.{Lands}

module _ {w : Mesh} {p : Place} (on : OnMesh w p) where
  pub stays-lands : Sized w.columns w.rows w.map → (h : Heading) → stays w.columns w.rows h p.row.0 p.column.0 ≡ true →
      Lands h 1 p.row.0 p.column.0
  unfolding stays
  stays-lands sized h s =
      record {
        row = omega (arith, on.row, sized.few-rows);
        column = omega (arith, on.column, sized.few-columns);
        hops = omega arith;
        south = λ e. leb-true 1 _ (rw e at s);
        west = λ e. leb-true 1 _ (rw e at s);
      }

  -- and the place after it is on the mesh
  pub stays_on : (h : Heading) → stays w.columns w.rows h p.row.0 p.column.0 ≡ true →
      OnMesh w (place (row_after h p.row.0) (column_after h p.column.0))
  stays_on h s =
      let (row, column) = hops.stays_on h on.row on.column s in
      record { row = row; column = column }

-- and so is the packet's
pub packet-lands : {w : Mesh} (h : Heading) (p : Packet) {q : Packet} → OnMesh w p.place →
    stays w.columns w.rows h p.place.row.0 p.place.column.0 ≡ true → q ≡ moved_packet h p → OnMesh w q.place
unfolding moved
packet-lands h p on s e = rw e (stays_on on h s)
