-- Where rounds come to rest is the least closed marking that holds the faults. Assumes nothing.
use Rattle.std.proofs.Common.{◌≡◌, refl, sym, ◌∙◌, inl, inr, Bool, true, false, ◌||◌, List, ℕ, zero, suc, ◌+◌, ◌*◌, ◌<◌, zero-add, ltb-true, lt-ltb, ltb, length}
use Rattle.std.proofs.lemmas.Bool.{and_parts, or_cases}
use Rattle.mesh.specs.Mesh.{Mesh, on_mesh}
use Rattle.mesh.specs.Nodes.{is_bad, bad, unsafe}
use Rattle.mesh.specs.Rounds.{become, round, on, marked}
use Rattle.mesh.proofs.Index.{index-row, index-column, index-within}
use Rattle.theory_blocks.specs.Marking.{Closed, NoneBeyond, Holds}
use Rattle.theory_blocks.proofs.Rules.{unsafe-holds, unsafe-mono}
use Rattle.theory_blocks.proofs.Rounds.{getD-advance, round-length, settle-keeps, marked-length, marked-quiet}

is_bad-become : (b : Bool) (x : ℕ) → is_bad (become b x) ≡ is_bad x || b
unfolding is_bad become
is_bad-become true zero = refl
is_bad-become false zero = refl
is_bad-become true (suc x) = refl
is_bad-become false (suc x) = refl

pub bad-on-mesh : (w : Mesh) → NoneBeyond w.columns w.rows (bad w)
unfolding bad on_mesh
bad-on-mesh w =
    record {
      row = λ r c e. ltb-true r w.rows (and_parts _ _ (and_parts _ _ e).0).0;
      column = λ r c e. ltb-true c w.columns (and_parts (ltb r w.rows) _ (and_parts _ _ e).0).1;
    }

pub bad-round : (w : Mesh) → length w.map ≡ w.columns * w.rows → (r c : ℕ) → r < w.rows → c < w.columns →
    bad (on w (round w)) r c ≡ bad w r c || unsafe (bad w) r c
unfolding bad on_mesh round
bad-round w size r c p q =
    let i : r * w.columns + c < length w.map = rw size (index-within w.columns r c q w.rows p) in
    rw (lt-ltb r w.rows p, lt-ltb c w.columns q, getD-advance _ 0 w.map (r * w.columns + c) i, zero-add, index-row w.columns r c q, index-column w.columns r c q)
    (is_bad-become _ _)

-- What holds of a map of the mesh's size.
module _ (w : Mesh) (size : length w.map ≡ w.columns * w.rows) where
  pub marked-closed : Closed w.columns w.rows (bad (marked w))
  marked-closed =
      record {
        rests =
            λ r c p q e.
            let s = bad-round (marked w) (marked-length w ∙ size) r c p q in
            sym (rw ((marked-quiet w size).quiet, e) at s);
      }

  -- what is kept by each round of a map of the mesh's size
  marked-keeps : (M : (ℕ → ℕ → Bool) → Type 0) →
      ((m : List ℕ) → length m ≡ w.columns * w.rows → M (bad (on w m)) → M (bad (on w (round (on w m))))) → M (bad w) →
      M (bad (marked w))
  marked-keeps M f i =
      (settle-keeps (λ m. (length m ≡ w.columns * w.rows) × M (bad (on w m))) (suc (w.columns * w.rows)) w
      (λ m (e, i). (round-length (on w m) ∙ e, f m e i)) (size, i)).1

  pub marked-holds : Holds (bad w) (bad (marked w))
  marked-holds =
      marked-keeps (λ B. Holds (bad w) B)
      (λ m e i.
      record {
        holds =
            λ r c b.
            let h = i.holds r c b in
            let p = (bad-on-mesh (on w m)).row r c h in
            let q = (bad-on-mesh (on w m)).column r c h in
            bad-round (on w m) e r c p q ∙ rw h;
      })
      (record { holds = λ r c b. b })

  pub marked-least : (Q : ℕ → ℕ → Bool) → Closed w.columns w.rows Q → Holds (bad w) Q → Holds (bad (marked w)) Q
  marked-least Q closed =
      marked-keeps (λ B. Holds B Q)
      (λ m e i.
      record {
        holds =
            λ r c b.
            let p = (bad-on-mesh (on w (round (on w m)))).row r c b in
            let q = (bad-on-mesh (on w (round (on w m)))).column r c b in
            elim (or_cases (bad (on w m) r c) (unsafe (bad (on w m)) r c) (sym (bad-round (on w m) e r c p q) ∙ b))
            [ inl h ↦ i.holds r c h | inr h ↦ unsafe-holds closed r c p q (unsafe-mono i r c h) ];
      })
