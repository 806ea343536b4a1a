-- What is shown of a table of sends. Each theorem is proved in the file that its proof cites. Assumes nothing.
use Rattle.std.proofs.Common.{Result, ◌≡◌, refl, sym, ap, ◌∙◌, ◌≢◌, List, [], ◌∷◌, ◌++◌, map, ℕ, suc, ◌*◌, ◌≤◌, ◌<◌, arith, length, get_or, take, drop, length-append, take_at, drop_at, get_or-take}
use Rattle.mesh.specs.declared.Refusal.{Refusal}
use Rattle.mesh.specs.declared.Network.{Network}
use Rattle.mesh.specs.Numbers.{Answer, answer, answer_code, written}
use Rattle.mesh.specs.Routing.{routed_answer, Routes}
use Rattle.theory_walk.specs.Claims.{most_hops}
use Rattle.theory_batch.specs.declared.BatchRefusal.{BatchRefusal}
use Rattle.theory_batch.specs.declared.Send.{Send}
use Rattle.theory_batch.specs.Sends.{sends_of}
use Rattle.theory_batch.specs.Batch.{call, route_call, calls, answers_of, letters_of, batch, batched_answer, batch_refusal, RoutesBatch}
use Rattle.theory_batch.specs.Claims.{alone, needed, Gives, told, parts}
use Rattle.theory_batch.proofs.Calls.{written-unless, answers-length}
use Rattle.theory_batch.proofs.Alone.{not-ten-alone, calls_alone, needed-most}
use Rattle.theory_batch.proofs.Parts.{alone-front, calls-parted, at-send}

module _ (network : Network) (columns rows : ℕ) (faults : List ℕ) where
  -- Of a single call of Route, which keeps its promise `Routes`:
  module _ (x : Send) (free : List ℕ) (r : Result ℕ Refusal) (after : List ℕ) (does : Routes network columns rows faults x.source x.destination free r after) where
    -- it does what a table says of it
    pub call-is-route : Gives (route_call network columns rows faults x free) free (routed_answer r) after
    unfolding route_call call
    call-is-route = record { answers = does.answers; writes = does.writes ∙ written-unless _ _ _ }

    -- unless it is refused 10 it does the same whatever is free
    pub alone-is-route : routed_answer r ≢ Answer.refused 10 → Gives (alone network columns rows faults x) free (routed_answer r) after
    unfolding answer
    alone-is-route not-ten =
        let same = not-ten-alone network columns rows faults x free (λ e. not-ten (does.answers ∙ rw e)) in
        rw (← same) call-is-route

  -- Of sends in a table, in any order and among any others:
  -- with room for the letters of all, each is called as if alone
  pub room-for-all : (xs : List Send) (out : List ℕ) → needed network columns rows faults xs ≤ length out →
      calls (route_call network columns rows faults) xs out ≡ map (alone network columns rows faults) xs
  room-for-all = calls_alone network columns rows faults

  -- 4,034 bytes for each send are such room
  pub room-always : (xs : List Send) → needed network columns rows faults xs ≤ most_hops * length xs
  room-always = needed-most network columns rows faults

  -- Of the operation, which keeps its promise:
  module _ (sends answers out : List ℕ) (r : Result ℕ BatchRefusal) (answers' out' : List ℕ) (does : RoutesBatch network columns rows faults sends answers out r answers' out') where
    -- where one of refusals 1 to 5 and 18 applies, the first that does is the answer, and nothing is altered
    pub else-refused : {k : ℕ} → batch_refusal columns rows faults sends answers ≡ suc k →
        (batched_answer r ≡ Answer.refused (suc k)) × (answers' ≡ answers) × (out' ≡ out)
    unfolding answer written
    else-refused e = (does.returns ∙ rw e, does.enters ∙ rw e, does.writes ∙ rw e)

    -- Where none applies:
    module _ (none : batch_refusal columns rows faults sends answers ≡ 0) where
      -- the answer list begins with an answer for each send
      pub each-answered : take (length (sends_of sends)) answers' ≡ answers_of (batch network columns rows faults sends out)
      unfolding written
      each-answered =
          let enters = rw none at does.enters in
          rw enters (take_at (answers_of (batch network columns rows faults sends out)) _ _ (answers-length (route_call network columns rows faults) (sends_of sends) out))

      -- by these answers alone the output falls into the letters of each
      pub each_part : parts (take (length (sends_of sends)) answers') out' ≡ map (λ c. c.letters) (batch network columns rows faults sends out)
      unfolding written
      each_part =
          let writes = rw none at does.writes in
          rw (each-answered, writes) (calls-parted network columns rows faults (sends_of sends) out _)

      -- entries after these answers, and bytes after the letters, are as they were
      pub rest-untouched : (drop (length (sends_of sends)) answers' ≡ drop (length (sends_of sends)) answers) ×
          (drop (length (letters_of (batch network columns rows faults sends out))) out' ≡ drop (length (letters_of (batch network columns rows faults sends out))) out)
      unfolding written
      rest-untouched =
          let enters = rw none at does.enters in
          let writes = rw none at does.writes in
          let n = answers-length (route_call network columns rows faults) (sends_of sends) out in (
            rw enters (drop_at (answers_of (batch network columns rows faults sends out)) _ _ n ∙ rw n),
            rw writes (drop_at (letters_of (batch network columns rows faults sends out)) _ _ refl),
          )

      -- with room for all, answer and letters of each send are those of its call alone, wherever it stands
      pub each-alone : needed network columns rows faults (sends_of sends) ≤ length out →
          (take (length (sends_of sends)) answers' ≡ answers_of (map (alone network columns rows faults) (sends_of sends))) ×
          (parts (take (length (sends_of sends)) answers') out' ≡ map (λ c. c.letters) (map (alone network columns rows faults) (sends_of sends)))
      each-alone room =
          let same = room-for-all (sends_of sends) out room in
          (each-answered ∙ ap answers_of same, each_part ∙ ap (map (λ c. c.letters)) same)

      -- that is, of a send x anywhere in the table: its answer and its part of the output are what any single call of Route that isn't refused 10
      -- answers and writes for it
      pub each-as-single : needed network columns rows faults (sends_of sends) ≤ length out →
          (before : List Send) (x : Send) (after : List Send) → sends_of sends ≡ before ++ (x ∷ after) →
          (own : List ℕ) (s : Result ℕ Refusal) (own' : List ℕ) → Routes network columns rows faults x.source x.destination own s own' →
          routed_answer s ≢ Answer.refused 10 →
          (get_or answers' (length before) 0 ≡ answer_code (routed_answer s)) ×
          (get_or (parts (take (length (sends_of sends)) answers') out') (length before) [] ≡ take (told (answer_code (routed_answer s))) own')
      unfolding answers_of
      each-as-single room before x after here own s own' single not-ten =
          let (answered, parted) = each-alone room in
          let gives = alone-is-route x own s own' single not-ten in
          let index : length before < length (sends_of sends) = rw here (omega (arith, length-append before (x ∷ after))) in (
            sym (get_or-take (length (sends_of sends)) answers' (length before) 0 index) ∙
                rw (answered, here, gives.answers) (at-send (λ c. answer_code c.answer) (alone network columns rows faults) before x after 0),
            rw (alone-front network columns rows faults x gives, parted, here) (at-send (λ c. c.letters) (alone network columns rows faults) before x after []),
          )
