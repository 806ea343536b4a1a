-- The way to the destination's column and to its row: its heading stays, and all of it is on the mesh. Assumes nothing.
use Rattle.std.proofs.Common.{◌≡◌, refl, inl, inr, false, cond, ℕ, ◌+◌, ◌-◌, ◌≤◌, ◌<◌, arith}
use Rattle.std.specs.Int.{abs_diff}
use Rattle.std.proofs.Math.Decide.{dec_lt}
use Rattle.std.proofs.Math.Dec.{ltb, eqb}
use Rattle.std.proofs.lemmas.Bool.{lt-ltb, le-ltb, ne_eqb}
use Rattle.mesh.specs.declared.Heading.{Heading}
use Rattle.mesh.specs.declared.Heading.TheVariants.{East as E, North as N, South as S, West as W}
use Rattle.mesh.specs.Rules.{Trip, side, toward}
use Rattle.mesh.proofs.Bools.{value}
use Rattle.hops.specs.Moved.{row_by, column_by, Reaches}

-- n hops that way stay on the mesh
Fits : Heading → ℕ → ℕ → ℕ → ℕ → ℕ → Type 0
Fits E columns rows n r c = c + n < columns
Fits N columns rows n r c = r + n < rows
Fits S columns rows n r c = n ≤ r
Fits W columns rows n r c = n ≤ c

reaches : {columns rows : ℕ} (h : Heading) {n r c : ℕ} → r < rows → c < columns → n < 64 → Fits h columns rows n r c → Reaches columns rows h n r c
unfolding Fits
reaches h p q few fits =
    record {
      row = p;
      column = q;
      east = λ e. rw e at fits;
      north = λ e. rw e at fits;
      south = λ e. rw e at fits;
      west = λ e. rw e at fits;
      hops = few;
    }

-- i nearer to b than a is
nearer : ℕ → ℕ → ℕ → ℕ
nearer a b i = cond (ltb a b) (a + i) (a - i)

-- before b is reached it is still that way, and not reached
nearer-stays : (a b : ℕ) {n : ℕ} → n ≤ abs_diff a b → (i : ℕ) → i < n → (ltb (nearer a b i) b ≡ ltb a b) × (eqb (nearer a b i) b ≡ false)
unfolding nearer
nearer-stays a b most i less =
    elim (dec_lt a b) [
      | yes h ↦ rw (lt-ltb a b h) (lt-ltb (a + i) b (omega arith), ne_eqb (a + i) b (λ e. omega arith))
      | no h ↦ rw (le-ltb a b (omega arith)) (le-ltb (a - i) b (omega arith), ne_eqb (a - i) b (λ e. omega arith))
    ]

side-nearer : (t : Trip) (c i : ℕ) → column_by (side t c) i c ≡ nearer c t.C i
unfolding side column_by nearer
side-nearer t c i = elim (value (ltb c t.C)) [ inl e ↦ rw e | inr e ↦ rw e ]

toward-nearer : (t : Trip) (r i : ℕ) → row_by (toward t r) i r ≡ nearer r t.R i
unfolding toward row_by nearer
toward-nearer t r i = elim (value (ltb r t.R)) [ inl e ↦ rw e | inr e ↦ rw e ]

module _ (t : Trip) (c : ℕ) {n : ℕ} (most : n ≤ abs_diff c t.C) where
  -- i hops on the destination's column is still to that side
  pub side-stays : (i : ℕ) → i < n → (side t (column_by (side t c) i c) ≡ side t c) × (eqb (column_by (side t c) i c) t.C ≡ false)
  unfolding side
  side-stays i less =
      let (still, apart) = nearer-stays c t.C most i less in
      rw (side-nearer t c i, still) (refl, apart)

  pub side-reaches : {columns rows : ℕ} (r : ℕ) → r < rows → c < columns → t.C < columns → columns ≤ 64 → Reaches columns rows (side t c) n r c
  unfolding side Fits
  side-reaches r p q d few =
      elim (dec_lt c t.C) [
        | yes h ↦ rw (lt-ltb c t.C h) (reaches E p q (omega arith) (omega arith))
        | no h ↦ rw (le-ltb c t.C (omega arith)) (reaches W p q (omega arith) (omega arith))
      ]

pub side-row : (t : Trip) (c i r : ℕ) → row_by (side t c) i r ≡ r
unfolding side row_by
side-row t c i r = elim (dec_lt c t.C) [ yes h ↦ rw (lt-ltb c t.C h) | no h ↦ rw (le-ltb c t.C (omega arith)) ]

module _ (t : Trip) (r : ℕ) {n : ℕ} (most : n ≤ abs_diff r t.R) where
  -- and its row still that way
  pub toward-stays : (i : ℕ) → i < n → (toward t (row_by (toward t r) i r) ≡ toward t r) × (eqb (row_by (toward t r) i r) t.R ≡ false)
  unfolding toward
  toward-stays i less =
      let (still, apart) = nearer-stays r t.R most i less in
      rw (toward-nearer t r i, still) (refl, apart)

  pub toward-reaches : {columns rows : ℕ} (c : ℕ) → r < rows → c < columns → t.R < rows → rows ≤ 64 → Reaches columns rows (toward t r) n r c
  unfolding toward Fits
  toward-reaches c p q d few =
      elim (dec_lt r t.R) [
        | yes h ↦ rw (lt-ltb r t.R h) (reaches N p q (omega arith) (omega arith))
        | no h ↦ rw (le-ltb r t.R (omega arith)) (reaches S p q (omega arith) (omega arith))
      ]
