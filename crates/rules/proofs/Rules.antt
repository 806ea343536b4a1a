-- The rules as the code goes through them, case by case: what the tests found, and what the rules then say. Assumes nothing.
use Rattle.std.proofs.Common.{◌≡◌, refl, sym, ap, ◌∙◌, inl, inr, Bool, true, false, cond, ◌&&◌, ◌||◌, ℕ, Option, Some, None}
use Rattle.std.proofs.Math.Dec.{ltb}
use Rattle.mesh.specs.declared.Heading.{Heading}
use Rattle.mesh.specs.declared.Heading.TheVariants.{East as E, North as N, South as S, West as W}
use Rattle.mesh.specs.Headings.{same, last_is}
use Rattle.mesh.specs.Nodes.{ahead}
use Rattle.mesh.specs.Rules.{Trip, blocked, side, toward, own, stopped, leaving, across, nearing, other_row}
use Rattle.mesh.proofs.Bools.{true-false, value}
use Rattle.mesh.proofs.Headings.{same_self, same-heading}

pub last-self : (h : Heading) → last_is (Some h) h ≡ true
unfolding last_is
last-self h = same_self h

pub last_made : (l : Option Heading) (h : Heading) → last_is l h ≡ true → l ≡ Some h
unfolding last_is
last_made None h e = true-false e refl
last_made (Some g) h e = ap Some (same-heading g h e)

module _ (t : Trip) (r c : ℕ) where
  -- stopped
  module _ {s : Heading} (es : s ≡ side t c) {x : Bool} (ex : x ≡ ahead t.bad s 1 r c) where
    pub stopped-second : {z : Bool} → x ≡ false → z ≡ own t s c && blocked t s 2 r c → z ≡ stopped t r c
    unfolding stopped blocked
    stopped-second f ez = rw (← es, ← ex, f) ez

  -- rules 3 and 5: the last hop leads toward R exactly if it is that way
  toward-or-away : (h : Heading) → same h N || same h S ≡ true →
      other_row t r c (Some h) ≡ cond (same h (toward t r)) (nearing t r c h) (leaving t r c h)
  unfolding other_row toward same
  toward-or-away E v = true-false v refl
  toward-or-away N v = elim (value (ltb r t.R)) [ inl e ↦ rw e | inr e ↦ rw e ]
  toward-or-away S v = elim (value (ltb r t.R)) [ inl e ↦ rw e | inr e ↦ rw e ]
  toward-or-away W v = true-false v refl

  toward-upright : same (toward t r) N || same (toward t r) S ≡ true
  unfolding toward same
  toward-upright = elim (value (ltb r t.R)) [ inl e ↦ rw e | inr e ↦ rw e ]

  -- rules 4 and 6
  after-level : (h : Heading) → same h N || same h S ≡ false → other_row t r c (Some h) ≡ across t r c h
  unfolding other_row same
  after-level E f = refl
  after-level N f = true-false refl f
  after-level S f = true-false refl f
  after-level W f = refl

  -- rules 3, 4 and 6, by the last hop, which does not lead toward R
  module _ (h : Heading) {l : Option Heading} (el : l ≡ Some h) {x : Bool} (ex : x ≡ same h N || same h S) {g : Heading} where
    pub round-leaving : x ≡ true → last_is l (toward t r) ≡ false → g ≡ leaving t r c h → g ≡ other_row t r c l
    unfolding last_is
    round-leaving v f q =
        let f' : same h (toward t r) ≡ false = rw el at f in
        rw (el, toward-or-away h (sym ex ∙ v), f') q

    pub round-across : x ≡ false → g ≡ across t r c h → g ≡ other_row t r c l
    round-across v q = rw (el, after-level h (sym ex ∙ v)) q

  -- rule 5, by the last hop
  pub near_again : (l : Option Heading) {h g : Heading} → h ≡ toward t r → last_is l (toward t r) ≡ true → g ≡ nearing t r c h → g ≡ other_row t r c l
  near_again l eh n q =
      let h = toward t r in
      rw (last_made l h n, toward-or-away h toward-upright, same_self h) (rw eh at q)
