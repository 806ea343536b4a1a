-- The rows of a round, and those that it leaves as they are. Assumes nothing.
use mathlib.Core.Path.{◌≡◌, sym, ap, ◌∙◌}
use mathlib.Core.Bool.{Bool, and-false}
use mathlib.Core.List.{List}
use Prim.Native.Nat.{ℕ, ◌+◌, ◌-◌, ◌*◌, ◌/◌, ◌%◌, ◌<◌}
use native.Mathlib.Nat.{zero-add}
use native.Mathlib.Decide.{dec_lt}
use native.Mathlib.Omega.{arith}
use borrow.Author.Tests.{le-ltb}
use lib.ListN.{length, get_or}
use lib.Seq.{ext_get_or}
use Rattle.mesh.specs.Mesh.{Mesh, on_mesh}
use Rattle.mesh.specs.Nodes.{bad, ahead, upright, rule_a, rule_b, unsafe}
use Rattle.mesh.specs.Rounds.{round, on}
use Rattle.mesh.proofs.Index.{index-row, index-column, index-within, place_of}
use Rattle.theory_blocks.proofs.Rounds.{getD-advance, round-length}
use Rattle.nodes.specs.Rounds.{node_after}
use Rattle.rounds.specs.Rounds.{Settled, Rounded, QuietSettled}

-- The nodes of a round.
module _ (w : Mesh) (size : length w.map ≡ w.columns * w.rows) where
  round-at : (r c : ℕ) → r < w.rows → c < w.columns → get_or (round w) (r * w.columns + c) 0 ≡ node_after w r c
  unfolding round node_after
  round-at r c p q =
      let i : r * w.columns + c < length w.map = rw size (index-within w.columns r c q w.rows p) in
      rw (getD-advance _ 0 w.map (r * w.columns + c) i, zero-add, index-row w.columns r c q, index-column w.columns r c q)

  pub round-by-rows : (ys : List ℕ) → length ys ≡ w.columns * w.rows →
      ((r c : ℕ) → r < w.rows → c < w.columns → get_or ys (r * w.columns + c) 0 ≡ node_after w r c) → ys ≡ round w
  round-by-rows ys e h =
      ext_get_or 0 ys (round w) (e ∙ sym size ∙ sym (round-length w))
      (λ j l.
      let f = place_of w.columns w.rows j (omega arith) in
      rw f.index at (h (j / w.columns) (j % w.columns) f.row f.column ∙ sym (round-at (j / w.columns) (j % w.columns) f.row f.column)))

  pub all_settled : ((r : ℕ) → r < w.rows → Settled w r) → round w ≡ w.map
  all_settled h = sym (round-by-rows w.map size (λ r c p q. sym ((h r p).rests c q)))

  pub settled-all : round w ≡ w.map → (r : ℕ) → r < w.rows → Settled w r
  settled-all e r p =
      record { rests = λ c q. sym (round-at r c p q) ∙ ap (λ m. get_or m (r * w.columns + c) 0) e }

-- The rules look at the node's own row and at those beside it.
module _ (A B : ℕ → ℕ → Bool) (r : ℕ) (here : (c : ℕ) → A r c ≡ B r c) (south : (c : ℕ) → A (r - 1) c ≡ B (r - 1) c)
    (north : (c : ℕ) → A (r + 1) c ≡ B (r + 1) c) where
  unsafe-alike : (c : ℕ) → unsafe A r c ≡ unsafe B r c
  unfolding unsafe rule_a rule_b upright ahead
  unsafe-alike c = rw (here (c + 1), here (c - 1), here (c + 2), here (c - 2), south c, north c)

module _ (w : Mesh) (m : List ℕ) where
  bad-alike : (r : ℕ) →
      (r < w.rows → (c : ℕ) → c < w.columns → get_or m (r * w.columns + c) 0 ≡ get_or w.map (r * w.columns + c) 0) → (c : ℕ) →
      bad (on w m) r c ≡ bad w r c
  unfolding bad on_mesh
  bad-alike r h c =
      elim (dec_lt r w.rows) [
        | yes p ↦
            elim (dec_lt c w.columns) [
              | yes q ↦ rw (h p c q)
              | no q ↦ rw (le-ltb c w.columns (omega arith), and-false)
            ]
        | no p ↦ rw (le-ltb r w.rows (omega arith))
      ]

-- a row is settled after a round if it and the rows beside it were
settled-next : (w : Mesh) → length w.map ≡ w.columns * w.rows → (r : ℕ) → r < w.rows → Settled w r → Settled w (r - 1) →
    (r + 1 < w.rows → Settled w (r + 1)) → Settled (on w (round w)) r
unfolding node_after
settled-next w size r p here south north =
    let alike : (q : ℕ) → (q < w.rows → Settled w q) → (c : ℕ) → bad (on w (round w)) q c ≡ bad w q c = λ q s. bad-alike w (round w) q (λ l c k. round-at w size q c l k ∙ (s l).rests c k) in
    record {
      rests =
          λ c k.
          rw (unsafe-alike (bad (on w (round w))) (bad w) r (alike r (λ l. here)) (alike (r - 1) (λ l. south)) (alike (r + 1) north) c, round-at w size r c p k, here.rests c k)
          (here.rests c k);
    }

pub quiet-settled : {w : Mesh} {x : Bool} {changed : List Bool} {now : List ℕ} → length w.map ≡ w.columns * w.rows → Rounded w x changed now →
    QuietSettled (on w now) changed
quiet-settled {w} size t =
    record {
      settled =
          λ r p q.
          rw t.copy
          (settled-next w size r p (t.rows r p q.here) (t.rows (r - 1) (omega arith) q.south)
          (λ l. t.rows (r + 1) l (q.north l)));
    }
