-- n hops one way are one hop after another, and the nodes on the way. Assumes nothing.
use Rattle.std.proofs.Common.{◌≡◌, refl, sym, ◌∙◌, Bool, true, false, List, ℕ, suc, ◌+◌, ◌≤◌, ◌<◌, arith}
use Rattle.std.proofs.Math.Bool.{and-false}
use Rattle.std.proofs.Math.Decide.{dec_lt}
use Rattle.std.proofs.lemmas.Bool.{le-leb}
use Rattle.mesh.specs.declared.Heading.{Heading}
use Rattle.mesh.specs.declared.Heading.TheVariants.{East as E, North as N, South as S, West as W}
use Rattle.mesh.specs.declared.Packet.{Packet}
use Rattle.mesh.specs.Headings.{row_after, column_after}
use Rattle.mesh.specs.Nodes.{ahead}
use Rattle.mesh.specs.Hops.{moved, moved_packet}
use Rattle.nodes.specs.Sized.{Sized}
use Rattle.hops.specs.Moved.{row_by, column_by, moved_by, Lands, Reaches, Free}

pub row-none : (h : Heading) (r : ℕ) → row_by h 0 r ≡ r
unfolding row_by
row-none E r = refl
row-none N r = omega arith
row-none S r = omega arith
row-none W r = refl

pub column-none : (h : Heading) (c : ℕ) → column_by h 0 c ≡ c
unfolding column_by
column-none E c = omega arith
column-none N c = refl
column-none S c = refl
column-none W c = omega arith

pub row_next : (h : Heading) (n r : ℕ) → row_by h n (row_after h r) ≡ row_by h (suc n) r
unfolding row_by row_after
row_next E n r = refl
row_next N n r = omega arith
row_next S n r = omega arith
row_next W n r = refl

pub column-next : (h : Heading) (n c : ℕ) → column_by h n (column_after h c) ≡ column_by h (suc n) c
unfolding column_by column_after
column-next E n c = omega arith
column-next N n c = refl
column-next S n c = refl
column-next W n c = omega arith

pub moved-one : (h : Heading) (p : Packet) → moved_by h 1 p ≡ moved_packet h p
unfolding moved_by moved
moved-one h p =
    rw (sym (row_next h 0 p.place.row.0) ∙ row-none h _, sym (column-next h 0 p.place.column.0) ∙ column-none h _)

-- the node i hops that way is not bad
pub ahead-free : (B : ℕ → ℕ → Bool) (h : Heading) (i r c : ℕ) → B (row_by h i r) (column_by h i c) ≡ false → ahead B h i r c ≡ false
unfolding ahead row_by column_by
ahead-free B E i r c e = e
ahead-free B N i r c e = e
ahead-free B S i r c e = rw (e, and-false)
ahead-free B W i r c e = rw (e, and-false)

-- the node i hops that way, on the mesh, is bad
pub ahead-bad : (B : ℕ → ℕ → Bool) (h : Heading) {i r c : ℕ} → (h ≡ S → i ≤ r) → (h ≡ W → i ≤ c) →
    B (row_by h i r) (column_by h i c) ≡ true → ahead B h i r c ≡ true
unfolding ahead row_by column_by
ahead-bad B E s w e = e
ahead-bad B N s w e = e
ahead-bad B S {i} {r} s w e = rw (le-leb i r (s refl), e)
ahead-bad B W {i} {r} {c} s w e = rw (le-leb i c (w refl), e)

-- and k hops on
pub row-add : (h : Heading) (i k r : ℕ) → row_by h k (row_by h i r) ≡ row_by h (i + k) r
unfolding row_by
row-add E i k r = refl
row-add N i k r = omega arith
row-add S i k r = omega arith
row-add W i k r = refl

pub column-add : (h : Heading) (i k c : ℕ) → column_by h k (column_by h i c) ≡ column_by h (i + k) c
unfolding column_by
column-add E i k c = omega arith
column-add N i k c = refl
column-add S i k c = refl
column-add W i k c = omega arith

module _ {columns rows : ℕ} {h : Heading} {n r c : ℕ} (f : Reaches columns rows h n r c) where
  pub reaches-lands : {map : List ℕ} {i : ℕ} → Sized columns rows map → i ≤ n → Lands h i r c
  reaches-lands sized le =
      record {
        row = omega (arith, f.row, sized.few-rows);
        column = omega (arith, f.column, sized.few-columns);
        hops = omega (arith, f.hops);
        south = λ e. omega (arith, f.south e);
        west = λ e. omega (arith, f.west e);
      }

pub reaches-on : {columns rows : ℕ} (h : Heading) {n r c : ℕ} → Reaches columns rows h n r c → (i : ℕ) → i ≤ n →
    (row_by h i r < rows) × (column_by h i c < columns)
unfolding row_by column_by
reaches-on E f i le = (f.row, omega (arith, f.east refl))
reaches-on N f i le = (omega (arith, f.north refl), f.column)
reaches-on S f i le = (omega (arith, f.row), f.column)
reaches-on W f i le = (f.row, omega (arith, f.column))

-- the next k of n nodes that way are free
pub record Clear (B : ℕ → ℕ → Bool) (h : Heading) (n r c k : ℕ) : Type 0 where
  pub within : k ≤ n
  pub free : (i : ℕ) → 1 ≤ i → i ≤ k → B (row_by h i r) (column_by h i c) ≡ false

pub clear_none : {B : ℕ → ℕ → Bool} {h : Heading} {n r c : ℕ} → Clear B h n r c 0
clear_none = record { within = omega arith; free = λ i one le. absurd (omega arith) }

module _ {B : ℕ → ℕ → Bool} {h : Heading} {n r c k : ℕ} (f : Clear B h n r c k) where
  module _ (less : k < n) {x : Bool} (is_x : x ≡ B (row_by h (k + 1) r) (column_by h (k + 1) c)) where
    pub clear-more : x ≡ false → Clear B h n r c (k + 1)
    clear-more e =
        record {
          within = omega arith;
          free =
              λ i one le.
              elim (dec_lt i (k + 1)) [
                | yes before ↦ f.free i one (omega arith)
                | no after ↦ let last : i ≡ k + 1 = omega arith in rw last (sym is_x ∙ e)
              ];
        }

    -- the count ends
    pub clear-bad : x ≡ true → Free B h n r c k
    clear-bad e = record { most = omega arith; free = f.free; ends = λ l. sym is_x ∙ e }

  pub clear-all : n ≤ k → Free B h n r c n
  clear-all h =
      let e : k ≡ n = omega (arith, f.within) in
      let all = rw e at f in
      record { most = omega arith; free = all.free; ends = λ less. absurd (omega arith) }
