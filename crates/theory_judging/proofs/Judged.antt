-- A whole hand-in, letter by letter. Assumes nothing.
use Rattle.std.proofs.Common.{Some, ◌≡◌, refl, sym, ◌∙◌, ◌↔◌, ◌≢◌, inl, inr, true, false, List, [], ◌∷◌, ◌++◌, ℕ, zero, suc, ◌+◌, ◌-◌, ◌≤◌, ◌<◌, add-zero, add-suc, suc-add, arith, length, take}
use Rattle.std.proofs.lemmas.Bool.{cases_Bool, and_parts, and_from}
use Rattle.std.proofs.Math.Seq.{take-nil}
use Rattle.mesh.specs.declared.Heading.{Heading}
use Rattle.mesh.specs.declared.Network.{Network}
use Rattle.mesh.specs.declared.Place.{Place}
use Rattle.mesh.specs.Mesh.{mesh}
use Rattle.mesh.specs.Headings.{letter, letters, named}
use Rattle.mesh.specs.Rounds.{marked}
use Rattle.mesh.specs.Rules.{Trip}
use Rattle.mesh.specs.Hops.{At, fresh, moved, lawful}
use Rattle.mesh.specs.Walk.{arrived, lawful_route}
use Rattle.mesh.specs.Maps.{map_tests}
use Rattle.mesh.specs.Requests.{place_tests}
use Rattle.mesh.specs.Judging.{letter_mistake, follow, Verdict, passed, failed, unless, judge, judge_from, judgement}
use Rattle.mesh.proofs.Lists.{letters-length}
use Rattle.mesh.proofs.Tests.{numbered_to, first-most}
use Rattle.mesh.proofs.Bools.{true-false}
use Rattle.mesh.proofs.Headings.{letter-named}
use Rattle.theory_judging.specs.Claims.{LawfulHandIn, lawful_hops, after, NotLawful, no-letter, unlawful, WentWrong, at-letter, at-end, FailedAt, refusal_of, trip_to}
use Rattle.theory_judging.proofs.Letters.{no-mistake-lawful, good, mistaken, examine}

-- Verdicts are told apart.
passed-failed {ℓ} : {A : Type ℓ} {n k j : ℕ} → passed n ≡ failed k j → A
passed-failed e = let z : ◌≡◌ {A = ℕ} 0 1 = cc in absurd (omega arith)

passed-number : {n m : ℕ} → passed n ≡ passed m → n ≡ m
passed-number e = cc

failed-number : {k j k' j' : ℕ} → failed k j ≡ failed k' j' → (k ≡ k') × (j ≡ j')
failed-number e = (cc, cc)

module _ (t : Trip) where
  -- the verdict on the first letter
  judge-good : (p : At) (i : ℕ) (h : Heading) (xs : List ℕ) → lawful t p h ≡ true → judge t p i (letter h ∷ xs) ≡ judge t (moved h p) (suc i) xs
  unfolding judge unless follow
  judge-good p i h xs l = rw (letter-named h, (no-mistake-lawful t p h).1 l)

  judge-mistaken : (p : At) (i k x : ℕ) (xs : List ℕ) → letter_mistake t p (named x) ≡ suc k → judge t p i (x ∷ xs) ≡ failed (suc k) i
  unfolding judge unless
  judge-mistaken p i k x xs e = rw e

  -- and after the last
  judge-arrived : (p : At) (i : ℕ) → arrived t p ≡ true → judge t p i [] ≡ passed i
  unfolding judge
  judge-arrived p i a = rw a

  judge-short : (p : At) (i : ℕ) → arrived t p ≡ false → judge t p i [] ≡ failed 16 i
  unfolding judge
  judge-short p i a = rw a

  -- a lawful route is made of lawful hops, and ends at the destination
  pub route-hops : (p : At) (hs : List Heading) → lawful_route t p hs ≡ true → (lawful_hops t p hs ≡ true) × (arrived t (after hs p) ≡ true)
  unfolding lawful_route lawful_hops after
  route-hops p [] e = (refl, e)
  route-hops p (h ∷ hs) e =
      let (l, rest) = and_parts (lawful t p h) _ e in
      let (more, there) = route-hops (moved h p) hs rest in
      (and_from _ _ l more, there)

  pub hops-route : (p : At) (hs : List Heading) → lawful_hops t p hs ≡ true → arrived t (after hs p) ≡ true → lawful_route t p hs ≡ true
  unfolding lawful_route lawful_hops after
  hops-route p [] e there = there
  hops-route p (h ∷ hs) e there = let (l, more) = and_parts (lawful t p h) _ e in and_from _ _ l (hops-route (moved h p) hs more there)

  pub route-passed : (p : At) (i : ℕ) (hs : List Heading) → lawful_route t p hs ≡ true → judge t p i (letters hs) ≡ passed (i + length hs)
  unfolding lawful_route letters
  route-passed p i [] e = rw add-zero (judge-arrived p i e)
  route-passed p i (h ∷ hs) e =
      let (l, m) = and_parts _ _ e in
      judge-good p i h (letters hs) l ∙ route-passed (moved h p) (suc i) hs m ∙ rw (add-suc, suc-add)

  passed-route : (p : At) (i n : ℕ) (xs : List ℕ) → judge t p i xs ≡ passed n → LawfulHandIn t p xs
  unfolding lawful_route letters
  passed-route p i n [] e =
      elim (cases_Bool (arrived t p)) [
        | inl a ↦ record { hops = []; spelled = refl; route = a }
        | inr a ↦ passed-failed (sym e ∙ judge-short p i a)
      ]
  passed-route p i n (x ∷ xs) e =
      elim (examine t p x) [
        | good h s l ↦
            let f = passed-route (moved h p) (suc i) n xs (sym (judge-good p i h xs l) ∙ (rw s at e)) in
            record { hops = h ∷ f.hops; spelled = rw (s, f.spelled); route = and_from _ _ l f.route }
        | mistaken k s u ↦ passed-failed (sym e ∙ judge-mistaken p i k x xs s)
      ]

  pub passed-lawful : (p : At) (i n : ℕ) (xs : List ℕ) → judge t p i xs ≡ passed n ↔ (LawfulHandIn t p xs × (n ≡ i + length xs))
  passed-lawful p i n xs =
      (λ e. let f = passed-route p i n xs e in (f, passed-number (sym e ∙ number f)), λ (f, e). rw e (number f))
    where
      number : LawfulHandIn t p xs → judge t p i xs ≡ passed (i + length xs)
      number f =
          let s = f.spelled in
          rw (← s, letters-length) (route-passed p i f.hops f.route)

  -- what is wrong with the rest is wrong with the whole, and the other way
  wrong-later : {p : At} {n k : ℕ} (x : ℕ) {xs : List ℕ} → WentWrong t p xs n k → WentWrong t p (x ∷ xs) (suc n) k
  wrong-later x (at-letter l u e) = at-letter (omega arith) u e
  wrong-later x (at-end l a e) = at-end (omega arith) a e

  wrong-rest : {p : At} {n k : ℕ} (x : ℕ) {xs : List ℕ} → WentWrong t p (x ∷ xs) (suc n) k → WentWrong t p xs n k
  wrong-rest x (at-letter l u e) = at-letter (omega arith) u e
  wrong-rest x (at-end l a e) = at-end (omega arith) a e

  pub failed-told : (p : At) (i : ℕ) (xs : List ℕ) {k j : ℕ} → judge t p i xs ≡ failed k j → FailedAt t p i xs k j
  unfolding letters lawful_hops after
  failed-told p i [] {k} {j} e =
      elim (cases_Bool (arrived t p)) [
        | inl a ↦ passed-failed (sym (judge-arrived p i a) ∙ e)
        | inr a ↦
            let (number, index) = failed-number (sym (judge-short p i a) ∙ e) in
            record {
              hops = [];
              begun = omega arith;
              spelled = rw take-nil;
              hops-lawful = refl;
              wrong = at-end (omega arith) a (sym number);
            }
      ]
  failed-told p i (x ∷ xs) {k} {j} e =
      elim (examine t p x) [
        | good h s l ↦
            let f = failed-told (moved h p) (suc i) xs (sym (judge-good p i h xs l) ∙ (rw s at e)) in
            let b = f.begun in
            let next : j - i ≡ suc (j - suc i) = omega arith in
            record {
              hops = h ∷ f.hops;
              begun = omega arith;
              spelled = rw (next, s, f.spelled);
              hops-lawful = and_from _ _ l f.hops-lawful;
              wrong = rw next (wrong-later x f.wrong);
            }
        | mistaken n s u ↦
            let (number, index) = failed-number (sym (judge-mistaken p i n x xs s) ∙ e) in
            let here : j - i ≡ 0 = omega arith in
            record {
              hops = [];
              begun = omega arith;
              spelled = rw here;
              hops-lawful = refl;
              wrong = rw here (at-letter (omega arith) u (sym number ∙ sym s));
            }
      ]

  -- a letter that is not a lawful hop ends the judging
  judge-wrong : (p : At) (i x : ℕ) (xs : List ℕ) → NotLawful t p x → judge t p i (x ∷ xs) ≡ failed (letter_mistake t p (named x)) i
  judge-wrong p i x xs u =
      elim (examine t p x) [
        | good h s l ↦ true-false l (not-lawful h u (rw s (letter-named h)))
        | mistaken n s v ↦ rw s (judge-mistaken p i n x xs s)
      ]
    where
      not-lawful : (h : Heading) → NotLawful t p x → named x ≡ Some h → lawful t p h ≡ false
      not-lawful h (no-letter o) e = cc
      not-lawful h (unlawful g o l) e = let s : g ≡ h = cc in rw (← s) l

  told_here : (p : At) (i : ℕ) (xs : List ℕ) (k : ℕ) → WentWrong t p xs 0 k → judge t p i xs ≡ failed k i
  told_here p i [] k (at-letter l u e) = absurd (omega arith)
  told_here p i [] k (at-end l a e) = rw e (judge-short p i a)
  told_here p i (x ∷ xs) k (at-letter l u e) = rw e (judge-wrong p i x xs u)
  told_here p i (x ∷ xs) k (at-end l a e) = absurd (omega arith)

  told-later : (p : At) (i : ℕ) (hs : List Heading) (xs : List ℕ) (n k : ℕ) → letters hs ≡ take n xs → lawful_hops t p hs ≡ true →
      WentWrong t (after hs p) xs n k → judge t p i xs ≡ failed k (i + n)
  unfolding letters lawful_hops after
  told-later p i [] xs zero k e l u = rw add-zero (told_here p i xs k u)
  told-later p i [] [] (suc n) k e l (at-letter m u f) = absurd (omega arith)
  told-later p i [] [] (suc n) k e l (at-end m a f) = absurd (omega arith)
  told-later p i [] (x ∷ xs) (suc n) k e l u = cc
  told-later p i (h ∷ hs) xs zero k e l u = cc
  told-later p i (h ∷ hs) [] (suc n) k e l u = cc
  told-later p i (h ∷ hs) (x ∷ xs) (suc n) k e l u =
      let s : letter h ≡ x = cc in
      let rest : letters hs ≡ take n xs = cc in
      let (m, ls) = and_parts _ _ l in
      (rw (← s) (judge-good p i h xs m)) ∙ told-later (moved h p) (suc i) hs xs n k rest ls (wrong-rest x u) ∙ rw (add-suc, suc-add)

  pub told-failed : (p : At) (i : ℕ) (xs : List ℕ) {k j : ℕ} → FailedAt t p i xs k j → judge t p i xs ≡ failed k j
  told-failed p i xs {k} {j} f =
      let b = f.begun in
      let s : i + (j - i) ≡ j = omega arith in
      told-later p i f.hops xs (j - i) k f.spelled f.hops-lawful f.wrong ∙ rw s

-- The operation: refusals 1 to 7 first.
module _ (network : Network) (columns rows : ℕ) (map : List ℕ) (s d : Place) (xs : List ℕ) where
  pub clear-judged : refusal_of columns rows map s d ≡ 0 → judgement network columns rows map s d xs ≡ judge (trip_to network columns rows map d) (fresh s) 0 xs
  unfolding judgement judge_from unless
  clear-judged e = rw e

  pub refused-judged : {k : ℕ} → refusal_of columns rows map s d ≡ suc k → judgement network columns rows map s d xs ≡ failed (suc k) 0
  unfolding judgement unless
  refused-judged e = rw e

  -- a refusal is told by its number, at most 7
  refusal-most : refusal_of columns rows map s d ≤ 7
  unfolding map_tests place_tests numbered_to
  refusal-most = first-most 7 (map_tests columns rows map ++ place_tests (marked (mesh columns rows map)) s d) refl

  -- so where a hand-in is passed, or fails with another number, none applies
  clear-else : {v : Verdict} → judgement network columns rows map s d xs ≡ v → ((k : ℕ) → k ≤ 7 → failed k 0 ≢ v) → refusal_of columns rows map s d ≡ 0
  clear-else {v} e other = go (refusal_of columns rows map s d) refl
    where
      go : (k : ℕ) → refusal_of columns rows map s d ≡ k → refusal_of columns rows map s d ≡ 0
      go zero f = f
      go (suc k) f = absurd (other (suc k) (omega (arith, refusal-most)) (sym (refused-judged f) ∙ e))

  pub passed-clear : {n : ℕ} → judgement network columns rows map s d xs ≡ passed n → refusal_of columns rows map s d ≡ 0
  passed-clear e = clear-else e (λ k m f. passed-failed (sym f))

  pub failed-judged : {k j : ℕ} → 7 < k →
      judgement network columns rows map s d xs ≡ failed k j ↔ ((refusal_of columns rows map s d ≡ 0) × FailedAt (trip_to network columns rows map d) (fresh s) 0 xs k j)
  failed-judged {k} {j} l = (
    λ e. let clear = clear-else e other in (clear, failed-told _ _ 0 xs (sym (clear-judged clear) ∙ e)),
    λ (clear, f). clear-judged clear ∙ told-failed _ _ 0 xs f,
  )
    where
      other : (n : ℕ) → n ≤ 7 → failed n 0 ≢ failed k j
      other n m f = let (number, index) = failed-number f in omega arith
