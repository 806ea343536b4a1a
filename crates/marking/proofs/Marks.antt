-- The marking of a map, and the cases of "Mark blocks". Assumes nothing.
use Rattle.std.proofs.Common.{◌≡◌, refl, sym, ap, ◌∙◌, cond, List, [], ◌∷◌, ◌++◌, ℕ, ◌≤◌, ◌<◌, ltb, length, take, drop, Result, Ok, Err}
use borrow.Author.Tests.{lt-ltb, le-ltb}
use Rattle.std.specs.Prelude.{⊤}
use Rattle.mesh.specs.declared.Refusal.{Refusal}
use Rattle.mesh.specs.declared.Refusal.TheVariants.{Room}
use Rattle.mesh.specs.Mesh.{Mesh, mesh}
use Rattle.mesh.specs.Tests.{Test, ◌gives◌, first}
use Rattle.mesh.specs.Numbers.{number, answer, written}
use Rattle.mesh.specs.Rounds.{marked}
use Rattle.mesh.specs.Blocks.{blocks}
use Rattle.mesh.specs.Maps.{map_tests}
use Rattle.mesh.specs.Marking.{mark_refusal, MarksBlocks}
use Rattle.mesh.proofs.Numbers.{answer-refused, written-refused}
use Rattle.mesh.proofs.Tests.{told-refused, told-clear, clear_next}
use Rattle.mesh.proofs.Maps.{map-numbered, accepted}
use Rattle.theory_blocks.proofs.Rounds.{marked-length}
use Rattle.theory_blocks.proofs.Theorems.{obstacles}
use Rattle.blocks.specs.Marking.{Marking}
use Rattle.rounds.specs.Rounds.{Settles}
use Rattle.nodes.specs.Sized.{Sized}
use Rattle.maps.proofs.Checks.{clear-sized, clear-few}
use Rattle.marking.specs.Marks.{MarksMap}

-- an operation that tests others besides: the map's refusals come first, and where there are none the others decide
module _ (columns rows : ℕ) (map : List ℕ) (others : List Test) where
  pub map-first : (why : Refusal) → number why ≡ first (map_tests columns rows map) → first (map_tests columns rows map ++ others) ≡ number why
  map-first why told = told-refused (map_tests columns rows map) others {A = ⊤} {x = Err why} told refl

  pub map-next : 0 ≡ first (map_tests columns rows map) → first (map_tests columns rows map ++ others) ≡ first others
  map-next clear = clear_next (map_tests columns rows map) others (map-numbered columns rows map) (sym clear)

-- a marking as a value: a mesh with the map of the settled one
module _ {columns rows : ℕ} {map : List ℕ} {w : Mesh} (is-w : w ≡ mesh columns rows map) {new : List ℕ} (e : new ≡ (marked w).map) where
  pub marks-map : new ≡ (marked (mesh columns rows map)).map
  marks-map = rw is-w at e

  pub marking : 0 ≡ first (map_tests columns rows map) → Marking (mesh columns rows new)
  marking clear = rw marks-map (record { obstacles = obstacles (accepted (sym clear)) })

-- what stands in the first places of a lent buffer, where the map is not refused
module _ (columns rows : ℕ) (map : List ℕ) {x : Result ⊤ Refusal} {after : List ℕ} (m : MarksMap columns rows map x after) (e : x ≡ Ok tt) where
  pub marks-clear : 0 ≡ first (map_tests columns rows map)
  marks-clear = sym (told-clear (map_tests columns rows map) e m.checks)

  pub marks-few : length map ≤ 4096
  marks-few = clear-few columns rows map (sym marks-clear)

  pub marks-sized : Sized columns rows (take (length map) after)
  marks-sized =
      let s = clear-sized columns rows map (sym marks-clear) in
      rw (m.marks e) (record { few-columns = s.few-columns; few-rows = s.few-rows; size = marked-length (mesh columns rows map) ∙ s.size })

module _ (columns rows : ℕ) (map out : List ℕ) where
  abbrev room : List Test
  room = ltb (length out) (length map) gives 10 ∷ []

  refused : (why : Refusal) → mark_refusal columns rows map out ≡ number why → MarksBlocks columns rows map out (Err why) out
  refused why e =
      record {
        answers = rw e (sym (answer-refused why _));
        counts = rw e (sym (answer-refused why _));
        writes = rw e (sym (written-refused why _ _));
      }

  pub map-refused : (why : Refusal) → number why ≡ first (map_tests columns rows map) → MarksBlocks columns rows map out (Err why) out
  unfolding mark_refusal
  map-refused why told = refused why (map-first columns rows map room why told)

  module _ (clear : 0 ≡ first (map_tests columns rows map)) where
    only-room : mark_refusal columns rows map out ≡ cond (ltb (length out) (length map)) 10 0
    unfolding mark_refusal first
    only-room = map-next columns rows map room clear

    pub room-refused : length out < length map → MarksBlocks columns rows map out (Err Room) out
    room-refused h = refused Room (only-room ∙ ap (λ b. cond b 10 0) (lt-ltb _ _ h))

    pub marks-done : {w : Mesh} {n k : ℕ} {new : List ℕ} → length map ≤ length out → w ≡ mesh columns rows map → Settles w k new →
        n ≡ length (blocks (mesh columns rows new)) →
        MarksBlocks columns rows map out (Ok (record { blocks = n; rounds = k })) (new ++ drop (length map) out)
    unfolding answer written
    marks-done h is-w t q =
        let none = only-room ∙ ap (λ b. cond b 10 0) (le-ltb _ _ h) in
        let e = marks-map is-w t.marks in
        record {
          answers = rw (none, q, e);
          counts = rw (none, t.counts, is-w);
          writes = rw (none, e, marked-length (mesh columns rows map));
        }
