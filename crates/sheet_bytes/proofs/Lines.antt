-- A newline ends the line that is held, or the one that stands there whole. Assumes nothing.
use Rattle.std.proofs.Common.{sym, ◌∙◌, ◌≡◌, refl, List, [], ◌∷◌, ◌++◌, ℕ, ◌+◌, ◌≤◌, ◌<◌, ◌==◌, Option, None, Some, length, get_or, take, arith, add-one, length-append, length-take-le, position}
use Rattle.std.proofs.lemmas.Bool.{eq-eqb, ne_eqb, eqb-true, eqb-false, le-leb, lt-leb}
use Rattle.std.proofs.lemmas.List.{length-take, get_or-take}
use Rattle.std.proofs.Math.Seq.{take-suc}
use Rattle.std.proofs.lemmas.List.Quantifiers.{position-Some}
use Rattle.sheet_words.specs.declared.Command.{Command}
use Rattle.sheet_words.specs.Words.{command_at}
use Rattle.theory_sheet.specs.Reader.{reading, feed}
use Rattle.theory_sheet.proofs.Lines.{unbroken-take}
use Rattle.theory_sheet.proofs.Feeding.{fed-one, line-fed}
use Rattle.sheet_bytes.specs.declared.Read.{Read}
use Rattle.sheet_bytes.specs.declared.Read.TheVariants.{Line, Part}
use Rattle.sheet_bytes.specs.Next.{ReadsByte, ReadsNext}

-- one byte
module _ (n x : ℕ) (held : List ℕ) where
  pub held-line : {c : Option Command} → x ≡ 10 → c ≡ command_at n held → ReadsByte n x held (Line c) held
  unfolding feed
  held-line e is_c = record { fed = λ t. rw (eq-eqb x 10 e, is_c); short = λ h. h }

  module _ (other : x ≡ 10 → ⊥) {k : ℕ} (is-k : k ≡ length held) where
    pub too_long : 20 ≤ k → ReadsByte n x held (Line None) held
    unfolding feed
    too_long h = record { fed = λ t. rw (ne_eqb x 10 other, ← is-k, le-leb 20 k h); short = λ h. h }

    pub one_more : k < 20 → {after : List ℕ} → after ≡ held ++ (x ∷ []) → ReadsByte n x held Part after
    unfolding feed
    one_more h e =
        record {
          fed = λ t. rw (e, ne_eqb x 10 other, ← is-k, lt-leb 20 k h);
          short = λ _. rw (e, length-append held (x ∷ [])) (omega arith);
        }

-- the first newline stands at index i, with at most 20 bytes before it
pub record WholeLine (bytes : List ℕ) (i : ℕ) : Type 0 where
  pub within : i < length bytes
  pub short : i ≤ 20
  pub unbroken : (j : ℕ) → j < i → get_or bytes j 0 ≡ 10 → ⊥
  pub ends : get_or bytes i 0 ≡ 10

pub found-whole : (bytes : List ℕ) (i : ℕ) → position (λ x. x == 10) (take 21 bytes) ≡ Some i → WholeLine bytes i
found-whole bytes i e =
    let (within, ends, unbroken) = position-Some (λ x. x == 10) (take 21 bytes) i 0 e in
    let size = length-take 21 bytes in
    let less : i < 21 = omega (arith, within, size) in
    record {
      within = omega (arith, within, size);
      short = omega arith;
      unbroken = λ j h f. eqb-false _ _ (unbroken j h) (get_or-take 21 bytes j 0 (omega arith) ∙ f);
      ends = sym (get_or-take 21 bytes i 0 less) ∙ eqb-true _ _ ends;
    }

pub whole-line : (n : ℕ) {held bytes : List ℕ} {i : ℕ} {c : Option Command} → length held ≡ 0 → WholeLine bytes i → c ≡ command_at n (take i bytes) →
    ReadsNext n bytes held (record { read = Line c; taken = i + 1 }) held
whole-line n {held = []} {bytes = bytes} {i = i} none l is_c =
    let size = length-take-le i bytes (omega (arith, l.within)) in
    let unbroken = unbroken-take bytes i l.unbroken (omega (arith, l.within)) in
    record {
      some = omega arith;
      within = omega (arith, l.within);
      fed = λ t. rw (is_c, add-one, take-suc bytes i 0 l.within) (line-fed n t [] (take i bytes) (get_or bytes i 0) unbroken l.ends (omega (arith, l.short)));
      short = λ h. h;
    }
whole-line n {held = x ∷ xs} none l is_c = absurd (omega arith)

pub one-byte : (n : ℕ) {bytes held after : List ℕ} {x : Read} → 1 ≤ length bytes → ReadsByte n (get_or bytes 0 0) held x after →
    ReadsNext n bytes held (record { read = x; taken = 1 }) after
one-byte n {bytes} {held} some b =
    record {
      some = omega arith;
      within = some;
      fed = λ t. fed-one (reading n t held) bytes refl some ∙ b.fed t;
      short = b.short;
    }
