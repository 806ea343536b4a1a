-- Copying a part of a list over another, number by number. Assumes nothing.
use Rattle.std.proofs.Common.{◌≡◌, refl, sym, ◌∙◌, Bool, true, false, List, ℕ, ◌+◌, ◌≤◌, ◌<◌, length, get_or, arith}
use native.Mathlib.Decide.{dec_lt}
use lib.ListN.{set, length-set}
use lib.Seq.{ext_get_or, get_or-set_same, get_or-set_other}
use Rattle.mesh.proofs.Bools.{true-false}
use Rattle.rounds.specs.Rounds.{Copied}

pub copied_none : (xs ys : List ℕ) (start : ℕ) → Copied xs ys start start false ys
copied_none xs ys start =
    record {
      size = refl;
      new = λ j l h. absurd (omega arith);
      before = λ j h. refl;
      after = λ j h. refl;
      same = λ e j l h. absurd (omega arith);
      differ = λ e. true-false e refl;
    }

-- one number more
module _ (xs ys now : List ℕ) (start i : ℕ) {x : Bool} (t : Copied xs ys start i x now) (s : start ≤ i) (h : i < length now) where
  more : (x' : Bool) → (x' ≡ false → (j : ℕ) → start ≤ j → j < i + 1 → get_or xs j 0 ≡ get_or ys j 0) →
      (x' ≡ true → ((j : ℕ) → start ≤ j → j < i + 1 → get_or xs j 0 ≡ get_or ys j 0) → ⊥) →
      Copied xs ys start (i + 1) x' (set now i (get_or xs i 0))
  more x' same differ =
      record {
        size = length-set now i (get_or xs i 0) ∙ t.size;
        new =
            λ j l m.
            elim (dec_lt j i) [
              | yes b ↦ get_or-set_other now i j (get_or xs i 0) 0 (λ q. omega arith) ∙ t.new j l b
              | no b ↦ let q : j ≡ i = omega arith in rw q (get_or-set_same now i (get_or xs i 0) 0 h)
            ];
        before = λ j l. get_or-set_other now i j (get_or xs i 0) 0 (λ q. omega arith) ∙ t.before j l;
        after = λ j l. get_or-set_other now i j (get_or xs i 0) 0 (λ q. omega arith) ∙ t.after j (omega arith);
        same = same;
        differ = differ;
      }

  pub copied-same : {x' : Bool} → get_or xs i 0 ≡ get_or now i 0 → x' ≡ x → Copied xs ys start (i + 1) x' (set now i (get_or xs i 0))
  copied-same e q =
      rw q
      (more x
      (λ f j l m.
      elim (dec_lt j i)
      [ yes b ↦ t.same f j l b | no b ↦ let q : j ≡ i = omega arith in rw q (e ∙ t.after i (omega arith)) ])
      (λ f all. t.differ f (λ j l m. all j l (omega arith))))

  pub copied-differ : {x' : Bool} → (get_or xs i 0 ≡ get_or now i 0 → ⊥) → x' ≡ true → Copied xs ys start (i + 1) x' (set now i (get_or xs i 0))
  copied-differ d q =
      rw q (more true (λ f. true-false refl f) (λ f all. d (all i s (omega arith) ∙ sym (t.after i (omega arith)))))

pub copied_all : (xs ys now : List ℕ) (x : Bool) → length ys ≡ length xs → Copied xs ys 0 (length xs) x now → now ≡ xs
copied_all xs ys now x size t =
    ext_get_or 0 now xs (t.size ∙ size) (λ j h. t.new j (omega arith) (omega (arith, t.size)))
