-- Equal bytes: none, one, some after others, and a run. Assumes nothing.
use mathlib.Core.Path.{◌≡◌, refl, sym, ◌∙◌}
use mathlib.Core.Logic.{◌≢◌}
use mathlib.Core.List.{List, append_assoc}
use Prim.Native.Nat.{ℕ, ◌+◌, ◌-◌, ◌≤◌, ◌<◌}
use native.Mathlib.Numerals.{add-one}
use native.Mathlib.Omega.{arith}
use lib.ListN.{length, get_or, drop, replicate, replicate-append-replicate}
use lib.Seq.{drop-cons}
use Rattle.runs.specs.Equal.{Same, Run}

module _ {xs : List ℕ} {i x : ℕ} where
  pub same_none : i ≤ length xs → Same xs i i x
  same_none h =
      let none : i - i ≡ 0 = omega arith in
      record { begun = omega arith; within = h; same = rw none }

  pub same-one : i < length xs → get_or xs i 0 ≡ x → Same xs i (i + 1) x
  same-one h e =
      let one : i + 1 - i ≡ 1 = omega arith in
      record { begun = omega arith; within = omega arith; same = drop-cons xs i 0 h ∙ rw (e, one, add-one) }

  pub same-on : {j k : ℕ} → Same xs i j x → Same xs j k x → Same xs i k x
  same-on {j} {k} s t =
      let size : k - i ≡ (j - i) + (k - j) = omega (arith, s.begun, t.begun) in
      record {
        begun = omega (arith, s.begun, t.begun);
        within = t.within;
        same =
            s.same ∙
            rw (t.same, size, ← replicate-append-replicate (j - i) (k - j) x)
            (sym (append_assoc (replicate (j - i) x) (replicate (k - j) x) (drop k xs)));
      }

-- the first byte of a run, the bytes after it that are equal, and then another or none
pub same-run : {xs : List ℕ} {i j : ℕ} → i < length xs → Same xs (i + 1) j (get_or xs i 0) → (j < length xs → get_or xs j 0 ≢ get_or xs i 0) → Run xs i j
same-run h s ends =
    let all = same-on (same-one h refl) s in
    record { begun = omega (arith, s.begun); within = s.within; run = all.same; ends = ends }
