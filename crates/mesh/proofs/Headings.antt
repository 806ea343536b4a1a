-- Headings, their letters and their codes tell one another apart. Assumes nothing.
use Rattle.std.proofs.Common.{Some, None, ◌≡◌, refl, ap, inl, inr, true, ℕ, zero, suc, ◌<◌, arith, eqb-true, eq-eqb, eqb}
use Rattle.std.proofs.lemmas.Bool.{cases_Bool}
use Rattle.mesh.specs.Headings.{Heading, E, N, S, W, letter, same, named, code, direction}

-- Letters

pub letter-named : (h : Heading) → named (letter h) ≡ Some h
unfolding named
letter-named E = refl
letter-named N = refl
letter-named S = refl
letter-named W = refl

-- a byte with what it names
pub data Named (x : ℕ) : Type 0 where
  is-hop : (h : Heading) → x ≡ letter h → Named x
  is-other : named x ≡ None → Named x

pub name : (x : ℕ) → Named x
unfolding named
name x =
    elim (cases_Bool (eqb x (letter E))) [
      | inl e ↦ is-hop E (eqb-true x _ e)
      | inr e ↦
          elim (cases_Bool (eqb x (letter N))) [
            | inl n ↦ is-hop N (eqb-true x _ n)
            | inr n ↦
                elim (cases_Bool (eqb x (letter S))) [
                  | inl s ↦ is-hop S (eqb-true x _ s)
                  | inr s ↦
                      elim (cases_Bool (eqb x (letter W)))
                      [ inl t ↦ is-hop W (eqb-true x _ t) | inr t ↦ is-other (rw (e, n, s, t)) ]
                ]
          ]
    ]

pub named-hop : (x : ℕ) (h : Heading) → named x ≡ Some h → x ≡ letter h
named-hop x h e =
    elim (name x) [
      | is-hop g s ↦
          let n : named x ≡ Some g = rw s (letter-named g) in
          let same : g ≡ h = cc in
          rw (← same) s
      | is-other o ↦ cc
    ]

-- The same heading

pub same_self : (h : Heading) → same h h ≡ true
unfolding same
same_self h = eq-eqb (letter h) (letter h) refl

pub same-heading : (g h : Heading) → same g h ≡ true → g ≡ h
unfolding same
same-heading g h e = cc (letter-named g, letter-named h, ap named (eqb-true (letter g) (letter h) e))

-- Codes

pub code-few : (h : Heading) → code h < 4
code-few E = omega arith
code-few N = omega arith
code-few S = omega arith
code-few W = omega arith

pub direction-of-code : (h : Heading) → direction (code h) ≡ h
unfolding direction
direction-of-code E = refl
direction-of-code N = refl
direction-of-code S = refl
direction-of-code W = refl

pub code-of-direction : (k : ℕ) → k < 4 → code (direction k) ≡ k
unfolding direction
code-of-direction zero h = refl
code-of-direction (suc zero) h = refl
code-of-direction (suc (suc zero)) h = refl
code-of-direction (suc (suc (suc zero))) h = refl
code-of-direction (suc (suc (suc (suc k)))) h = absurd (omega arith)
