-- Refusals 6 to 9: the source and the destination of a request on a marked mesh (document 01, "Route"). Assumes nothing.
use Rattle.std.specs.Prelude.{Bool, not, ◌||◌, List, [], ◌∷◌, ◌++◌}
use Rattle.mesh.specs.declared.Network.{Network}
use Rattle.mesh.specs.declared.Place.{Place}
use Rattle.mesh.specs.Tests.{Test, ◌gives◌}
use Rattle.mesh.specs.Mesh.{Mesh, on_mesh}
use Rattle.mesh.specs.Nodes.{bad, near_in_row}
use Rattle.mesh.specs.Blocks.{within, some_block, blocks}
use Rattle.mesh.specs.Rules.{trip_on}
use Rattle.mesh.specs.Walk.{shut_in, meets_edge}

-- 6: off the mesh
unfoldable pub off_mesh : Mesh → Place → Bool
off_mesh w p = not (on_mesh w p.row.0 p.column.0)

-- 7: in a block
unfoldable pub in_block : Mesh → Place → Bool
in_block w p = bad w p.row.0 p.column.0

-- 8: some block has a node in its row, one or two columns away (document 02, E4)
unfoldable pub block_near_in_row : Mesh → Place → Bool
block_near_in_row w p = some_block (λ b. near_in_row (within b) p.row.0 p.column.0) (blocks w)

-- 9: a hop by the rules leaves the mesh, enters a block or is a forbidden turn or reversal; by the condition that this comes to
unfoldable pub unserved : Network → Mesh → Place → Place → Bool
unserved n w s d = shut_in (trip_on n w d) s.row.0 s.column.0 || meets_edge (trip_on n w d) s.row.0 s.column.0

-- refusals 6 and 7, of source and destination
unfoldable pub place_tests : Mesh → Place → Place → List Test
place_tests w s d =
    (off_mesh w s || off_mesh w d) gives 6 ∷
    (in_block w s || in_block w d) gives 7 ∷
    []

-- refusals 6 to 8, the last one of the destination
unfoldable pub trip_tests : Mesh → Place → Place → List Test
trip_tests w s d = place_tests w s d ++ (block_near_in_row w d gives 8 ∷ [])

-- refusals 6 to 9
unfoldable pub request_tests : Network → Mesh → Place → Place → List Test
request_tests n w s d = trip_tests w s d ++ (unserved n w s d gives 9 ∷ [])
