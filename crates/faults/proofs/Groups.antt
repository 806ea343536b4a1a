-- From one fault to the next. Assumes nothing.
use mathlib.Core.Path.{◌≡◌, sym, ◌∙◌}
use mathlib.Core.Bool.{Bool, true, false}
use mathlib.Core.List.{List}
use Prim.Native.Nat.{ℕ, ◌+◌, ◌<◌}
use native.Mathlib.Omega.{arith}
use borrow.Author.Tests.{ltb-true, lt-ltb}
use lib.Dec.{ltb}
use lib.ListN.{get_or}
use Rattle.mesh.specs.Nodes.{is_bad}
use Rattle.mesh.proofs.Bools.{and_both, and_right}
use Rattle.faults.specs.Groups.{fault_before, Next, Chain, alone, more}

module _ (map : List ℕ) (i end : ℕ) where
  module _ {x : Bool} (ex : x ≡ fault_before map end (i + 1)) where
    pub one_on : x ≡ true → Next map end i (i + 1)
    unfolding fault_before
    one_on t =
        let (p, q) = and_both {a = ltb (i + 1) end} (sym ex ∙ t) in
        record { later = omega arith; near = omega arith; inside = ltb-true _ _ p; fault = q; none_between = λ j a b. absurd (omega arith) }

    pub two-on : {y : Bool} → x ≡ false → y ≡ fault_before map end (i + 2) → y ≡ true → Next map end i (i + 2)
    unfolding fault_before
    two-on f ey t =
        let (p, q) = and_both {a = ltb (i + 2) end} (sym ey ∙ t) in
        let h = ltb-true (i + 2) end p in
        let sound : is_bad (get_or map (i + 1) 0) ≡ false = and_right (ltb (i + 1) end) _ (lt-ltb (i + 1) end (omega arith)) (sym ex ∙ f) in
        record {
          later = omega arith;
          near = omega arith;
          inside = h;
          fault = q;
          none_between = λ j a b. let e : j ≡ i + 1 = omega arith in rw e sound;
        }

pub chain-inside : {map : List ℕ} {end i last : ℕ} → Chain map end i last → last < end
chain-inside (alone h) = h
chain-inside (more g n) = n.inside
