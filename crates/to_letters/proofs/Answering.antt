-- What is found of a file is what the operation answers. Assumes nothing.
use Rattle.std.specs.Prelude.{Ok, Err}
use mathlib.Core.Path.{◌≡◌, ◌∙◌}
use mathlib.Core.List.{List}
use Prim.Native.Nat.{ℕ, ◌≤◌, ◌<◌}
use lib.ListN.{length}
use Rattle.mesh.specs.Headings.{letters}
use Rattle.mesh.proofs.Lists.{letters-length}
use Rattle.buffers.specs.Over.{over}
use Rattle.buffers.proofs.Over.{over-all}
use Rattle.theory_legs.specs.declared.LegRefusal.{LegRefusal}
use Rattle.theory_legs.specs.declared.LegRefusal.TheVariants.{Room}
use Rattle.theory_legs.specs.Legs.{hops}
use Rattle.theory_legs.specs.Converting.{legs_in, letters_of, LegsToLetters}
use Rattle.theory_legs.proofs.FileRefusals.{file-numbered, fault-refuses, legs-accepted}
use Rattle.theory_legs.proofs.Promises.{refuses-as, refuses-room, wrote_as}
use Rattle.to_letters.specs.declared.Counted.{Counted}
use Rattle.to_letters.specs.Counted.{Whole, CountsFile, Readable, letters_from}

module _ (ys out : List ℕ) where
  pub answers-fault : {why : LegRefusal} → CountsFile ys (Err why) → LegsToLetters ys out (Err why) out
  unfolding CountsFile
  answers-fault {why} t = refuses-as why (fault-refuses ys out t)

  module _ (x : Counted) (t : CountsFile ys (Ok x)) where
    whole : Whole ys x.legs x.first x.total
    unfolding CountsFile
    whole = t

    letters-there : letters_of ys ≡ letters (hops whole.legs-there)
    unfolding letters_of legs_in
    letters-there = rw whole.all

    sized : length (letters_of ys) ≡ x.total
    sized = rw letters-there (letters-length (hops whole.legs-there) ∙ whole.total-is)

    pub answers-room : length out < x.total → LegsToLetters ys out (Err Room) out
    answers-room = refuses-room (file-numbered ys) (legs-accepted ys whole.all) sized

    module _ (room : x.total ≤ length out) where
      pub letters-writable : Readable ys x.first x.legs out
      letters-writable =
          let w = whole in
          record { legs-there = w.legs-there; rest = _; after = w.after; room = rw w.total-is room }

      pub answers-wrote : {after : List ℕ} → after ≡ over out 0 (letters_from ys x.first x.legs) → LegsToLetters ys out (Ok x.total) after
      unfolding letters_from legs_in
      answers-wrote f =
          let stands = rw (whole.after, ← letters-there) at f in
          wrote_as (file-numbered ys) (legs-accepted ys whole.all) sized room (stands ∙ over-all out (letters_of ys) (rw sized room))
