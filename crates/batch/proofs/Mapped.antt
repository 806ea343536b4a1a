-- The cases of the operation: the map's refusals as they were told, 18, or the sends on the map's marking. Assumes nothing.
use Rattle.std.proofs.Common.{◌≡◌, sym, ◌∙◌, true, false, cond, ◌||◌, List, [], ◌∷◌, ℕ, ◌/◌, ◌≤◌, ◌<◌, ltb, length, Ok, Err}
use borrow.Author.Tests.{lt-ltb, le-ltb}
use Rattle.mesh.specs.declared.Refusal.{Refusal}
use Rattle.mesh.specs.declared.Network.{Network}
use Rattle.mesh.specs.Mesh.{Mesh, mesh}
use Rattle.mesh.specs.Tests.{Test, ◌gives◌, first}
use Rattle.mesh.specs.Numbers.{number, answer, written}
use Rattle.mesh.specs.Maps.{map_tests}
use Rattle.mesh.specs.Rounds.{marked}
use Rattle.mesh.specs.Routing.{send_tests, route_refusal}
use Rattle.mesh.proofs.Numbers.{answer-refused, written-refused}
use Rattle.theory_batch.specs.declared.Send.{Send}
use Rattle.theory_batch.specs.declared.BatchRefusal.TheVariants.{Map, NotSends}
use Rattle.theory_batch.specs.Sends.{sends_of, uneven}
use Rattle.theory_batch.specs.Batch.{route_call, batch_refusal, RoutesBatch}
use Rattle.theory_batch.proofs.Sends.{sends-length}
use Rattle.theory_batch.proofs.Calls.{calls-agree}
use Rattle.marking.proofs.Marks.{map-first, map-next}
use Rattle.sends.specs.Sends.{route_call_on}
use Rattle.batch.specs.Marked.{RoutesSends}

module _ (network : Network) (columns rows : ℕ) (map sends answers out : List ℕ) where
  abbrev list : List Test
  list = (uneven sends || ltb (length answers) (length (sends_of sends))) gives 18 ∷ []

  pub map-refused : (why : Refusal) → number why ≡ first (map_tests columns rows map) → RoutesBatch network columns rows map sends answers out (Err (Map why)) answers out
  unfolding batch_refusal
  map-refused why told =
      let e = map-first columns rows map list why told in
      record {
        returns = rw e (sym (answer-refused why _));
        enters = rw e (sym (written-refused why _ _));
        writes = rw e (sym (written-refused why _ _));
      }

  module _ (clear : 0 ≡ first (map_tests columns rows map)) where
    only-list : batch_refusal columns rows map sends answers ≡ cond (uneven sends || ltb (length answers) (length sends / 4)) 18 0
    unfolding batch_refusal first
    only-list = map-next columns rows map list clear ∙ rw (sends-length sends)

    not-sends : batch_refusal columns rows map sends answers ≡ 18 → RoutesBatch network columns rows map sends answers out (Err NotSends) answers out
    unfolding answer written
    not-sends told = record { returns = rw told; enters = rw told; writes = rw told }

    pub uneven-refused : uneven sends ≡ true → RoutesBatch network columns rows map sends answers out (Err NotSends) answers out
    uneven-refused h = not-sends (only-list ∙ rw h)

    pub short-refused : uneven sends ≡ false → length answers < length sends / 4 → RoutesBatch network columns rows map sends answers out (Err NotSends) answers out
    short-refused h short = not-sends (only-list ∙ rw (h, lt-ltb _ _ short))

    -- on the map's marking each call does what Route does on the map
    same-call : (y : Send) (free : List ℕ) → route_call network columns rows map y free ≡ route_call_on network (marked (mesh columns rows map)) y free
    unfolding route_call route_call_on route_refusal
    same-call y free = rw (map-next columns rows map (send_tests network (marked (mesh columns rows map)) y.source y.destination free) clear)

    pub marked-batch : {w : Mesh} → w ≡ marked (mesh columns rows map) → {n : ℕ} {answers' out' : List ℕ} → uneven sends ≡ false → length sends / 4 ≤ length answers →
        RoutesSends (route_call_on network w) sends answers out n answers' out' →
        RoutesBatch network columns rows map sends answers out (Ok n) answers' out'
    unfolding answer written
    marked-batch is-w h enough r =
        let on = rw is-w at r in
        let none : batch_refusal columns rows map sends answers ≡ 0 = only-list ∙ rw (h, le-ltb _ _ enough) in
        let same = calls-agree (route_call network columns rows map) (route_call_on network (marked (mesh columns rows map))) same-call (sends_of sends) out in
        record {
          returns = rw (none, same, on.counts);
          enters = rw (none, same) on.enters;
          writes = rw (none, same) on.writes;
        }

-- an entry for each send
pub entries-enough : (sends answers : List ℕ) → length sends / 4 ≤ length answers → length (sends_of sends) ≤ length answers
entries-enough sends answers e = rw (sends-length sends) e
