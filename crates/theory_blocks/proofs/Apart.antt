-- Rectangles of bad nodes with free rings are apart from each other, and what that says of a list of them. Assumes nothing.
use Rattle.std.proofs.Common.{◌≡◌, refl, sym, ◌∙◌, ◌⊎◌, inl, inr, Bool, List, [], ◌∷◌, ℕ, pred, ◌+◌, ◌<◌, min, max, arith}
use Rattle.std.proofs.Math.Decide.{dec_le}
use mathlib.Core.List.Memᴰ
use mathlib.Core.List.{Memᴰ}
use Rattle.mesh.specs.Blocks.{Block}
use Rattle.mesh.proofs.Bools.{true-false}
use Rattle.theory_blocks.specs.Blocks.{Within, OnRing, Apart, by-east, by-west, by-north, by-south}
use Rattle.theory_blocks.specs.Obstacles.{Listed, Walled, Pairs, none, more}

pub apart-nodes : {a b : Block} → Apart a b → (x y : ℕ) → Within a x y → Within b x y → ⊥
apart-nodes (by-east h) x y i j = omega arith
apart-nodes (by-west h) x y i j = omega arith
apart-nodes (by-north h) x y i j = omega arith
apart-nodes (by-south h) x y i j = omega arith

pub apart-sym : (a b : Block) → Apart a b → Apart b a
apart-sym a b (by-east h) = by-west h
apart-sym a b (by-west h) = by-east h
apart-sym a b (by-north h) = by-south h
apart-sym a b (by-south h) = by-north h

-- neither lies far enough from the other on any side
record Close (a b : Block) : Type 0 where
  pub not-east : b.column < a.width + a.column + 2
  pub not-west : a.column < b.width + b.column + 2
  pub not-north : b.row < a.height + a.row + 1
  pub not-south : a.row < b.height + b.row + 1

-- Of two that are close and have different corners, a node of one is on the other's ring.
module _ {B : ℕ → ℕ → Bool} where
  clash : {a b : Block} → Walled B a → Walled B b → (x y : ℕ) → Within a x y → OnRing b x y → ⊥
  clash k l x y i o = true-false (k.inside x y i) (l.ring x y o)

  close-columns : {a b : Block} → Walled B a → Walled B b → Close a b → a.column < b.column → ⊥
  close-columns {a} {b} k l n h =
      clash k l (max a.row (pred b.row)) (min (pred b.column) (pred (a.width + a.column))) (omega arith) (omega arith)

  close-rows : {a b : Block} → Walled B a → Walled B b → Close a b → a.column ≡ b.column → a.row < b.row → ⊥
  close-rows {a} {b} k l n e h = clash k l (pred b.row) a.column (omega arith) (omega arith)

  close-same : {a b : Block} → Walled B a → Walled B b → Close a b → (a.row ≡ b.row) × (a.column ≡ b.column)
  close-same {a} {b} k l n =
      let m : Close b a = omega arith in
      let p : ¬ (a.column < b.column) = close-columns k l n in
      let q : ¬ (b.column < a.column) = close-columns l k m in
      let e : a.column ≡ b.column = omega arith in
      let u : ¬ (a.row < b.row) = close-rows k l n e in
      let v : ¬ (b.row < a.row) = close-rows l k m (sym e) in
      (omega arith, e)

  pub walled-apart : {a b : Block} → Walled B a → Walled B b → (a.row ≡ b.row → a.column ≡ b.column → ⊥) → Apart a b
  walled-apart {a} {b} k l differ =
      elim (dec_le (a.width + a.column + 2) b.column) [
        | yes h ↦ by-east (omega arith)
        | no e ↦
            elim (dec_le (b.width + b.column + 2) a.column) [
              | yes h ↦ by-west (omega arith)
              | no w ↦
                  elim (dec_le (a.height + a.row + 1) b.row) [
                    | yes h ↦ by-north (omega arith)
                    | no n ↦
                        elim (dec_le (b.height + b.row + 1) a.row)
                        [ yes h ↦ by-south (omega arith) | no s ↦ let m = close-same k l (omega arith) in absurd (differ m.0 m.1) ]
                  ]
            ]
      ]

pub pairs-map : {A : Type 0} {R S : A → A → Type 0} (l : List A) → ((a b : A) → Memᴰ a l → Memᴰ b l → R a b → S a b) → Pairs R l → Pairs S l
pairs-map [] f none = none
pairs-map (a ∷ rest) f (more h p) =
    more (λ b m. f a b (Memᴰ.head refl) (Memᴰ.tail m) (h b m))
    (pairs-map rest (λ a b m n. f a b (Memᴰ.tail m) (Memᴰ.tail n)) p)

-- any two members, in either order
pub pairs-any : {A : Type 0} {R : A → A → Type 0} → ((a b : A) → R a b → R b a) → (l : List A) → Pairs R l → (a b : A) →
    Memᴰ a l → Memᴰ b l → (a ≡ b) ⊎ R a b
pairs-any turn [] none a b m n = absurd (Memᴰ.not-nil m)
pairs-any turn (d ∷ rest) (more h p) a b m n =
    elim (Memᴰ.cases_cons m) [
      | inl u ↦ elim (Memᴰ.cases_cons n) [ inl v ↦ inl (u ∙ sym v) | inr v ↦ inr (rw u (h b v)) ]
      | inr u ↦
          elim (Memᴰ.cases_cons n) [ inl v ↦ inr (rw v (turn d a (h a u))) | inr v ↦ pairs-any turn rest p a b u v ]
    ]

-- two blocks of a list whose members are apart are the same one, or apart
pub listed-apart : {bs : List Block} → Pairs Apart bs → (a b : Block) → Listed a bs → Listed b bs → (a ≡ b) ⊎ Apart a b
listed-apart {bs} p a b m n = pairs-any apart-sym bs p a b m n
