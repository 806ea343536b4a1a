-- Bytes that are written in parts, one after another. Assumes nothing.
use Rattle.std.proofs.Common.{◌≡◌, Bool, List, [], ◌++◌, ℕ, ◌-◌, Option, None, Some, length, take, drop, sym, ap, ◌∙◌, append_assoc, append-nil, take-append-drop}
use Rattle.std.proofs.lemmas.List.{take_rest}
use Rattle.std.specs.Io.KnownBytes.{Appends, Keeps}
use Rattle.std.proofs.KnownBytes.{Appends-trans}
use Rattle.sheet_writer.specs.Writing.{AppendsPart, Writes}

pub keeps-none : (a b : Option (List ℕ)) → Keeps a b → Appends a b []
keeps-none None b k = tt
keeps-none (Some x) None k = absurd k
keeps-none (Some x) (Some y) k = k ∙ sym (append-nil x)

-- after others
part-after : {a b c : Option (List ℕ)} (xs : List ℕ) {ys all : List ℕ} → Appends a b xs → AppendsPart b c ys → all ≡ xs ++ ys → AppendsPart a c all
part-after {a = a} {b = b} {c = c} xs p q e =
    record {
      part = xs ++ q.part;
      rest = q.rest;
      parts = e ∙ ap (λ zs. xs ++ zs) q.parts ∙ sym (append_assoc xs q.part q.rest);
      appends = Appends-trans a b c xs q.part p q.appends;
    }

-- of more bytes
pub part-more : {a b : Option (List ℕ)} {xs all : List ℕ} (ys : List ℕ) → AppendsPart a b xs → all ≡ xs ++ ys → AppendsPart a b all
part-more ys p e =
    record {
      part = p.part;
      rest = p.rest ++ ys;
      parts = e ∙ ap (λ zs. zs ++ ys) p.parts ∙ append_assoc p.part p.rest ys;
      appends = p.appends;
    }

pub part-all : {a b : Option (List ℕ)} (xs : List ℕ) → Appends a b xs → AppendsPart a b xs
part-all xs p = record { part = xs; rest = []; parts = sym (append-nil xs); appends = p }

-- one thing after another, of which the first was written
pub writes-after : {a b c : Option (List ℕ)} (xs : List ℕ) {ys all : List ℕ} {w : Bool} → Appends a b xs → Writes b c ys w → all ≡ xs ++ ys → Writes a c all w
writes-after {a = a} {b = b} {c = c} xs {ys = ys} p q e =
    record {
      whole = λ t. rw e (Appends-trans a b c xs ys p (q.whole t));
      part = part-after xs p q.part e;
    }

-- n bytes of the rest are written too
pub moves_on : (all done rest : List ℕ) (n : ℕ) → all ≡ done ++ rest → all ≡ (done ++ take n rest) ++ take (length rest - n) (drop n rest)
moves_on all done rest n e =
    e ∙ ap (λ zs. done ++ zs) (sym (take-append-drop n rest)) ∙ sym (append_assoc done (take n rest) (drop n rest)) ∙
    ap (λ zs. (done ++ take n rest) ++ zs) (sym (take_rest rest n))
