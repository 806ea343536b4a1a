-- Copying the due rows of a round makes the round: the others would not change. Assumes nothing.
use mathlib.Core.Path.{◌≡◌, refl, sym, ◌∙◌}
use mathlib.Core.Logic.{inl, inr}
use mathlib.Core.Bool.{Bool, true, false, ◌||◌}
use mathlib.Core.List.{List}
use Prim.Native.Nat.{ℕ, ◌+◌, ◌-◌, ◌*◌, ◌≤◌, ◌<◌}
use native.Mathlib.Decide.{dec_lt}
use native.Mathlib.Omega.{arith}
use lib.ListN.{length, get_or, set}
use lib.Seq.{get_or-set_same, get_or-set_other}
use Rattle.mesh.specs.Mesh.{Mesh}
use Rattle.mesh.proofs.Bools.{true-false, value, or-none}
use Rattle.std.proofs.lemmas.Bool.{or_cases}
use Rattle.mesh.proofs.Index.{index-within}
use Rattle.nodes.specs.Rounds.{node_after}
use Rattle.rounds.specs.Rounds.{DueAfter, RowCopied, Settled, OthersSettled, Rounded}
use Rattle.rounds.proofs.Settled.{round-by-rows, all_settled, settled-all}

-- the rows before row r are done
pub record Copying (w : Mesh) (r : ℕ) (any : Bool) (changed : List Bool) (now : List ℕ) : Type 0 where
  pub size : length now ≡ length w.map
  pub new : (q c : ℕ) → q < r → c < w.columns → get_or now (q * w.columns + c) 0 ≡ node_after w q c
  pub old : (j : ℕ) → r * w.columns ≤ j → get_or now j 0 ≡ get_or w.map j 0
  pub rows : (q : ℕ) → q < r → get_or changed q false ≡ false → Settled w q
  pub others : (q : ℕ) → q < r → Settled w q → get_or changed q false ≡ false
  pub same : any ≡ false → (q : ℕ) → q < r → Settled w q
  pub differ : any ≡ true → ((q : ℕ) → q < w.rows → Settled w q) → ⊥

pub copying-none : (w : Mesh) (changed : List Bool) → Copying w 0 false changed w.map
copying-none w changed =
    record {
      size = refl;
      new = λ q c h. absurd (omega arith);
      old = λ j h. refl;
      rows = λ q h. absurd (omega arith);
      others = λ q h. absurd (omega arith);
      same = λ e q h. absurd (omega arith);
      differ = λ e. true-false e refl;
    }

-- one row is done
pub record RowDone (w : Mesh) (r : ℕ) (before : List ℕ) (x : Bool) (now : List ℕ) : Type 0 where
  pub size : length now ≡ length before
  pub new : (c : ℕ) → c < w.columns → get_or now (r * w.columns + c) 0 ≡ node_after w r c
  pub south : (j : ℕ) → j < r * w.columns → get_or now j 0 ≡ get_or before j 0
  pub north : (j : ℕ) → r * w.columns + w.columns ≤ j → get_or now j 0 ≡ get_or before j 0
  pub same : x ≡ false → Settled w r
  pub differ : x ≡ true → Settled w r → ⊥

module _ {w : Mesh} {r : ℕ} {any : Bool} {changed : List Bool} {now : List ℕ} (t : Copying w r any changed now) (p : r < w.rows) where
  module _ {due : List Bool} {next after : List ℕ} {x : Bool} (d : DueAfter w due w.rows next) (o : OthersSettled w due)
      (u : RowCopied w.columns r next due now x after) where
    row_kept : get_or due r false ≡ false → RowDone w r now x after
    row_kept z =
        let s = o.settled r p z in
        rw (u.kept z).1
        (record {
          size = refl;
          new = λ c k. t.old (r * w.columns + c) (omega arith) ∙ sym (s.rests c k);
          south = λ j l. refl;
          north = λ j l. refl;
          same = λ e. s;
          differ = λ e. true-false e (u.kept z).0;
        })

    row_copied : get_or due r false ≡ true → RowDone w r now x after
    row_copied z =
        let v = u.copied z in
        record {
          size = v.size;
          new = λ c k. v.new (r * w.columns + c) (omega arith) (omega arith) ∙ d.new r c p k z;
          south = v.before;
          north = v.after;
          same =
              λ e.
              record {
                rests =
                    λ c k.
                    sym (d.new r c p k z) ∙ v.same e (r * w.columns + c) (omega arith) (omega arith) ∙
                    t.old (r * w.columns + c) (omega arith);
              };
          differ =
              λ e s.
              v.differ e
              (λ j l m.
              let c = j - r * w.columns in
              let k : c < w.columns = omega arith in
              let q : r * w.columns + c ≡ j = omega arith in
              rw q at (d.new r c p k z ∙ s.rests c k ∙ sym (t.old (r * w.columns + c) (omega arith))));
        }

    pub row_done : RowDone w r now x after
    row_done = elim (value (get_or due r false)) [ inl z ↦ row_copied z | inr z ↦ row_kept z ]

  -- one row more
  module _ {after : List ℕ} {x : Bool} (u : RowDone w r now x after) where
    pub copying-more : {any' : Bool} → r < length changed → any' ≡ any || x → Copying w (r + 1) any' (set changed r x) after
    copying-more h told =
        let kept : (q : ℕ) → q < r → get_or (set changed r x) q false ≡ get_or changed q false = λ q b. get_or-set_other changed r q x false (λ e. omega arith) in
        let here = get_or-set_same changed r x false h in
        record {
          size = u.size ∙ t.size;
          new =
              λ q c l k.
              elim (dec_lt q r) [
                | yes b ↦ u.south (q * w.columns + c) (omega (arith, index-within w.columns q c k r b)) ∙ t.new q c b k
                | no b ↦ let e : q ≡ r = omega arith in rw e (u.new c k)
              ];
          old = λ j l. u.north j (omega arith) ∙ t.old j (omega arith);
          rows =
              λ q l z.
              elim (dec_lt q r) [
                | yes b ↦ t.rows q b (sym (kept q b) ∙ z)
                | no b ↦ let e : q ≡ r = omega arith in rw e (u.same (sym here ∙ (rw e at z)))
              ];
          others =
              λ q l s.
              elim (dec_lt q r) [
                | yes b ↦ kept q b ∙ t.others q b s
                | no b ↦
                    let e : q ≡ r = omega arith in
                    rw e (here ∙ elim (value x) [ inl f ↦ absurd (u.differ f (rw e at s)) | inr f ↦ f ])
              ];
          same =
              λ f q l.
              let g = or-none any x (sym told ∙ f) in
              elim (dec_lt q r) [ yes b ↦ t.same g.0 q b | no b ↦ let e : q ≡ r = omega arith in rw e (u.same g.1) ];
          differ = λ f all. elim (or_cases any x (sym told ∙ f)) [ inl g ↦ t.differ g all | inr g ↦ u.differ g (all r p) ];
        }

pub copying-all : {w : Mesh} {r : ℕ} {any : Bool} {changed : List Bool} {now : List ℕ} → length w.map ≡ w.columns * w.rows → r ≡ w.rows →
    Copying w r any changed now → Rounded w any changed now
copying-all {w} {r} size e t =
    record {
      copy = round-by-rows w size _ (t.size ∙ size) (λ q c p k. t.new q c (omega arith) k);
      rows = λ q p. t.rows q (omega arith);
      others = λ q p. t.others q (omega arith);
      same = λ f. all_settled w size (λ q p. t.same f q (omega arith));
      differ = λ f g. t.differ f (settled-all w size g);
    }
