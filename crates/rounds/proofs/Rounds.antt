-- What the loop of the rounds keeps: the marking to come stays the same, its rounds are those made and those to come, and a round that changes
-- something leaves fewer safe nodes. Assumes nothing.
use mathlib.Core.Path.{◌≡◌, refl, sym, ap, ◌∙◌}
use mathlib.Core.Bool.{Bool, true, false}
use mathlib.Core.List.{List}
use Prim.Native.Nat.{ℕ, ◌+◌, ◌*◌, ◌≤◌, ◌<◌}
use native.Mathlib.Omega.{arith}
use lib.ListN.{length, replicate, get_or-replicate}
use Rattle.mesh.specs.Mesh.{Mesh, mesh}
use Rattle.mesh.specs.Rounds.{round, on, marked, rounds}
use Rattle.mesh.proofs.Bools.{true-false}
use Rattle.theory_blocks.specs.Rounds.{safe_nodes}
use Rattle.theory_blocks.proofs.Rounds.{round-length, round-less, settled-last, settled-later, rounds-few, marked-quiet}
use Rattle.nodes.specs.Sized.{Sized}
use Rattle.rounds.specs.Rounds.{Rounded, QuietSettled, Settles}
use Rattle.rounds.proofs.Settled.{quiet-settled}

-- rounds lead from v to w, and the next one is the k-th
pub record Leads (v : Mesh) (k : ℕ) (w : Mesh) : Type 0 where
  pub marks : (marked v).map ≡ (marked w).map
  pub counts : rounds v + 1 ≡ k + rounds w

-- one more that changes something leads on
leads-on : {v w : Mesh} {k : ℕ} → length w.map ≡ w.columns * w.rows → Leads v k w → (round w ≡ w.map → ⊥) → Leads v (k + 1) (on w (round w))
leads-on {w = w} size l changed =
    let e = settled-later w size changed in
    record { marks = l.marks ∙ ap (λ x. x.map) e; counts = omega (arith, l.counts, ap (λ x. x.rounds) e) }

-- and one that changes nothing is the last
leads-end : {v w : Mesh} {k : ℕ} → Leads v k w → round w ≡ w.map → Settles v k (round w)
leads-end {w = w} l same =
    let e = settled-last w same in
    record { marks = same ∙ sym (l.marks ∙ ap (λ x. x.map) e); counts = omega (arith, l.counts, ap (λ x. x.rounds) e) }

-- rounds from xs have come to now, the next one is the k-th, and changed says which rows the last one changed
pub record Settling (columns rows : ℕ) (xs : List ℕ) (k : ℕ) (changed : List Bool) (now : List ℕ) : Type 0 where
  pub sized : Sized columns rows now
  pub quiet : QuietSettled (mesh columns rows now) changed
  pub leads : Leads (mesh columns rows xs) k (mesh columns rows now)

pub settling-start : (columns rows n : ℕ) (xs : List ℕ) → Sized columns rows xs → rows ≤ n → Settling columns rows xs 1 (replicate n true) xs
settling-start columns rows n xs s h =
    record {
      sized = s;
      quiet = record { settled = λ r p q. true-false (get_or-replicate {A = Bool} n r true false (omega arith)) q.here };
      leads = record { marks = refl; counts = omega arith };
    }

module _ {columns rows k : ℕ} {xs : List ℕ} {changed changed' : List Bool} {now next : List ℕ} {x : Bool}
    (s : Settling columns rows xs k changed now) (t : Rounded (mesh columns rows now) x changed' next) where
  -- a round that changes something leads on
  pub settling-more : x ≡ true → Settling columns rows xs (k + 1) changed' next
  settling-more f =
      record {
        sized =
            record {
              few-columns = s.sized.few-columns;
              few-rows = s.sized.few-rows;
              size = rw t.copy (round-length (mesh columns rows now) ∙ s.sized.size);
            };
        quiet = quiet-settled s.sized.size t;
        leads = rw t.copy (leads-on s.sized.size s.leads (t.differ f));
      }

  -- and leaves fewer safe nodes
  pub settling-less : x ≡ true → safe_nodes next < safe_nodes now
  settling-less f = rw t.copy (round-less (mesh columns rows now) (t.differ f))

  -- one that changes nothing is the last
  pub settling-end : x ≡ false → Settles (mesh columns rows xs) k next
  settling-end f = rw t.copy (leads-end s.leads (t.same f))

-- a round more still fits
pub settling-few : {columns rows k : ℕ} {xs : List ℕ} {changed : List Bool} {now : List ℕ} → Settling columns rows xs k changed now →
    length xs ≡ columns * rows → k ≤ columns * rows + 1
settling-few {columns} {rows} {xs = xs} {now = now} s size =
    omega (arith, s.leads.counts, rounds-few (mesh columns rows xs) size, (marked-quiet (mesh columns rows now) s.sized.size).number)
