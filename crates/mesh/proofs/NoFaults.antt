-- The map without faults. Assumes nothing.
use Rattle.std.proofs.Common.{◌≡◌, refl, inl, inr, false, List, ℕ, ◌+◌, ◌*◌, eq-eqb, ltb, replicate}
use Rattle.std.proofs.lemmas.Bool.{cases_Bool}
use Rattle.std.proofs.lemmas.List.{length-replicate, get_or-replicate}
use Rattle.mesh.specs.Mesh.{mesh, on_mesh}
use Rattle.mesh.specs.Tests.{first}
use Rattle.mesh.specs.Nodes.{is_bad, bad}
use Rattle.mesh.specs.Maps.{bad_size, bad_length, bad_byte, misplaced_at, misplaced, map_tests}
use Rattle.mesh.proofs.Hops.{on-mesh}
use Rattle.mesh.proofs.Index.{index-within}
use Rattle.mesh.proofs.Some.{none-same}

abbrev pub no_faults : ℕ → ℕ → List ℕ
no_faults columns rows = replicate (columns * rows) 0

module _ (columns rows : ℕ) where
  pub no-faults-length : bad_length columns rows (no_faults columns rows) ≡ false
  unfolding bad_length
  no-faults-length = rw (eq-eqb _ _ (length-replicate {A = ℕ} (columns * rows) 0))

  pub no-faults-bytes : bad_byte (no_faults columns rows) ≡ false
  unfolding bad_byte
  no-faults-bytes = none-same (λ i x. ltb 1 x) 0 (λ i. refl) (columns * rows) 0

  sound-placed : (i : ℕ) → misplaced_at columns rows i 0 ≡ false
  unfolding misplaced_at is_bad
  sound-placed i = refl

  pub no-faults-placed : misplaced columns rows (no_faults columns rows) ≡ false
  unfolding misplaced
  no-faults-placed = none-same (misplaced_at columns rows) 0 sound-placed (columns * rows) 0

  -- refusals 1 to 5 let it pass, if the mesh has a size of document 01
  pub no-faults-pass : bad_size columns ≡ false → bad_size rows ≡ false → first (map_tests columns rows (no_faults columns rows)) ≡ 0
  unfolding first map_tests
  no-faults-pass p q = rw (p, q, no-faults-length, no-faults-bytes, no-faults-placed)

  -- no node is bad
  pub no-faults-bad : (r c : ℕ) → bad (mesh columns rows (no_faults columns rows)) r c ≡ false
  unfolding bad is_bad
  no-faults-bad r c =
      elim (cases_Bool (on_mesh (mesh columns rows (no_faults columns rows)) r c)) [
        | inl e ↦
            let (i, j) = on-mesh (mesh columns rows (no_faults columns rows)) r c e in
            rw (e, get_or-replicate {A = ℕ} (columns * rows) (r * columns + c) 0 0 (index-within columns r c j rows i))
        | inr e ↦ rw e
      ]
