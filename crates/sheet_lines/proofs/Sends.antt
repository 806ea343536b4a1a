-- There is room for every route, so a send's answer is one of refusals 6 to 9, or its letters. Assumes nothing.
use Rattle.std.specs.Prelude.{Result, Ok, Err}
use Rattle.std.proofs.Common.{◌≡◌, refl, sym, ap, ◌∙◌, cond, List, [], ◌∷◌, ◌++◌, ℕ, zero, suc, ◌+◌, ◌≤◌, ◌<◌, arith, ltb, length, take, drop, length-append}
use Rattle.std.proofs.lemmas.Bool.{le-ltb}
use Rattle.std.proofs.lemmas.List.{take_at, length-take-le}
use Rattle.mesh.specs.declared.Place.{Place}
use Rattle.mesh.specs.declared.Refusal.{Refusal}
use Rattle.mesh.specs.declared.Network.TheVariants.{First}
use Rattle.mesh.specs.Mesh.{Mesh}
use Rattle.mesh.specs.Headings.{letters}
use Rattle.mesh.specs.Tests.{◌gives◌, first}
use Rattle.mesh.specs.Numbers.{number, refused, returned, answer, written}
use Rattle.mesh.specs.Requests.{request_tests}
use Rattle.mesh.specs.Routing.{routed_answer, hops_of, send_tests}
use Rattle.mesh.proofs.Lists.{letters-length}
use Rattle.mesh.proofs.Numbers.{number-some}
use Rattle.mesh.proofs.Tests.{clear-same}
use Rattle.mesh.proofs.Requests.{request, request-numbered}
use Rattle.theory_walk.specs.Claims.{most_hops}
use Rattle.theory_walk.proofs.Theorems.{request-arrives, request-bound}
use Rattle.buffers.specs.Over.{Puts}
use Rattle.sheet_state.specs.Keeping.{MarkMap}
use Rattle.routing.specs.Marked.{RoutesOn}
use Rattle.sheet_prints.specs.Prints.{line, no_word, ok_line}
use Rattle.theory_sheet.specs.Sheet.{answer_of, send_answer}
use Rattle.sheet_lines.specs.Answers.{send_room}

answer-hops : (k n m : ℕ) → returned n ≡ answer k m → (k ≡ 0) × (n ≡ m)
unfolding answer
answer-hops zero n m e = (refl, cc)
answer-hops (suc k) n m e = let z : ◌≡◌ {A = ℕ} 0 1 = cc in absurd (omega (arith, z))

answer-number : (k j m : ℕ) (xs : List ℕ) → refused (suc j) ≡ answer k m → answer_of k xs ≡ line no_word (suc j)
unfolding answer answer_of
answer-number zero j m xs e = cc
answer-number (suc k) j m xs e = let q : k ≡ j = cc in rw q

module _ (w : Mesh) (s d : Place) (m : MarkMap w.columns w.rows w.map) where
  hops-few : first (request_tests First w s d) ≡ 0 → length (hops_of First w s d) ≤ most_hops
  hops-few clear =
      let q = request w s d clear in
      let bounded = request-bound First w s d m.sized.few-columns m.sized.few-rows m.marking.obstacles q in
      omega (arith, (request-arrives First w s d m.marking.obstacles q).hops)

  module _ (before : List ℕ) (room : most_hops ≤ length before) where
    no-tenth : first (request_tests First w s d) ≡ 0 → first (ltb (length before) (length (hops_of First w s d)) gives 10 ∷ []) ≡ 0
    unfolding first
    no-tenth clear =
        let fits : length (hops_of First w s d) ≤ length before = omega (arith, hops-few clear) in
        ap (λ b. cond b 10 0) (le-ltb _ _ fits)

    same-refusal : first (send_tests First w s d before) ≡ first (request_tests First w s d)
    unfolding send_tests
    same-refusal = clear-same (request_tests First w s d) _ (request-numbered w s d First) no-tenth

    module _ {r : Result ℕ Refusal} {after : List ℕ} (told : RoutesOn First w s d before r after) where
      told-answer : routed_answer r ≡ answer (first (request_tests First w s d)) (length (hops_of First w s d))
      told-answer = told.answers ∙ ap (λ k. answer k (length (hops_of First w s d))) same-refusal

      module _ {n : ℕ} (e : r ≡ Ok n) where
        told-hops : (first (request_tests First w s d) ≡ 0) × (n ≡ length (hops_of First w s d))
        told-hops = answer-hops _ _ _ (ap routed_answer (sym e) ∙ told-answer)

        told-letters : after ≡ letters (hops_of First w s d) ++ drop (length (letters (hops_of First w s d))) before
        unfolding written
        told-letters = told.writes ∙ rw (same-refusal, told-hops.0)

        pub sent-within : n ≤ length after
        sent-within =
            let hs = letters (hops_of First w s d) in
            rw told-letters
            (omega (arith, told-hops.1, letters-length (hops_of First w s d), length-append hs (drop (length hs) before)))

        pub sent-fits : (at size : ℕ) → at + send_room ≤ size → (length (take n after) < 100000) × (at + length (take n after) + 10 ≤ size)
        sent-fits at size h =
            let taken = length-take-le n after sent-within in
            let (clear, counted) = told-hops in
            (omega (arith, hops-few clear), omega (arith, hops-few clear))

        sent-letters : take n after ≡ letters (hops_of First w s d)
        sent-letters =
            ap (take n) told-letters ∙ take_at _ _ n (letters-length (hops_of First w s d) ∙ sym told-hops.1)

        pub sent : {out : List ℕ} {at x : ℕ} {out' : List ℕ} → Puts out at (ok_line (take n after)) x out' → Puts out at (send_answer w s d) x out'
        unfolding send_answer answer_of
        sent p = rw told-hops.0 (rw sent-letters at p)

      pub not-sent : {why : Refusal} {j : ℕ} {out : List ℕ} {at x : ℕ} {out' : List ℕ} → r ≡ Err why → j ≡ number why →
          Puts out at (line no_word j) x out' → Puts out at (send_answer w s d) x out'
      unfolding send_answer
      not-sent {why} e q p =
          let a = rw (number-some why) at (ap routed_answer (sym e) ∙ told-answer) in
          rw (answer-number (first (request_tests First w s d)) _ _ (letters (hops_of First w s d)) a) (rw (q, number-some why) at p)
