-- What a marking at rest looks like: its bad nodes lie in rectangles, each with a ring round it in which none is bad. Assumes nothing.
use Rattle.std.proofs.Common.{◌≡◌, sym, ◌∙◌, Bool, true, false, ◌&&◌, ℕ, suc, pred, ◌+◌, ◌-◌, ◌≤◌, ◌<◌, arith}
use Rattle.std.proofs.Math.Bool.{and-true, and-false, and_comm}
use Rattle.std.proofs.Math.Decide.{dec_lt, dec_le}
use Rattle.mesh.specs.Blocks.{Block, run, block_at}
use Rattle.theory_blocks.specs.Blocks.{Within, OnRing}
use Rattle.theory_blocks.specs.Obstacles.{Walled}
use Rattle.theory_blocks.proofs.Rules.{column, Settled}
use Rattle.theory_blocks.proofs.Lines.{Begins, All, Spans, run_holds, run_ends, run-reaches, run-some, lead, Alike, same}

-- bad nodes throughout, and none just beside
record Rectangle (B : ℕ → ℕ → Bool) (b : Block) : Type 0 where
  pub tall : 0 < b.height
  pub wide : 0 < b.width
  pub row-spans : (x : ℕ) → b.row ≤ x → x < b.height + b.row → Spans (B x) b.column b.width
  pub column-spans : (y : ℕ) → b.column ≤ y → y < b.width + b.column → Spans (column B y) b.row b.height

-- a bad node, with none just west or just south of it
pub record Corner (B : ℕ → ℕ → Bool) (r c : ℕ) : Type 0 where
  pub is-bad : B r c ≡ true
  pub west : Begins (B r) c
  pub south : Begins (column B c) r

-- The lines from r on that hold c, all of them as long as the first.
module _ (line : ℕ → ℕ → Bool) (alike : (x : ℕ) → Alike (line x) (line (suc x))) (r c h k : ℕ) where
  spans : Begins (line r) c → ((x y : ℕ) → k ≤ y → line x y ≡ false) → (x : ℕ) → r ≤ x → x < run h (column line c) r + r →
      Spans (line x) c (run k (line r) c)
  spans b out x p q =
      let s = same line alike k c r x p (λ z u v. run_holds (column line c) h r z u (omega arith)) in
      record {
        begins = λ y e. s.west y e ∙ b y e;
        holds = λ y u v. run_holds (line x) k c y u (rw s.east v);
        ends = λ y u. run_ends (line x) k (out x) k c y (omega arith) (rw s.east u);
      }

-- A line P that holds w places from c on, and a place y at most two before or after them.
module _ (P : ℕ → Bool) (c w : ℕ) (some : 0 < w) (y : ℕ) (low : c ≤ y + 2) (high : y < w + c + 2) where
  -- a line beside it that holds none of them does not hold y
  fringe : (Q : ℕ → Bool) → ((y y' : ℕ) → y ≤ y' → y' ≤ y + 2 → P y && Q y' ≡ Q y && P y') → All P true c w → All Q false c w → Q y ≡ false
  fringe Q near p q =
      elim (dec_lt y c) [
        | yes h ↦ sym (simp (p c (omega arith) (omega arith), q c (omega arith) (omega arith), and-true, and-false) at (near y c (omega arith) (omega arith)))
        | no h ↦
            elim (dec_lt y (w + c)) [
              | yes k ↦ q y (omega arith) k
              | no k ↦
                  let z = pred (w + c) in
                  rw (p z (omega arith) (omega arith), q z (omega arith) (omega arith)) at (near z y (omega arith) (omega arith))
            ]
      ]

  -- if it spans just them, and has no two bad nodes two apart round one that is not, it does not hold y outside
  flank : ((y : ℕ) → P (suc y) ≡ false → P y && P (suc (suc y)) ≡ false) → Spans P c w → (c ≤ y → y < w + c → ⊥) → P y ≡ false
  flank between s out =
      elim (dec_lt y c) [
        | yes h ↦
            elim (dec_lt (suc y) c) [
              | yes k ↦ simp (s.holds (suc (suc y)) (omega arith) (omega arith), and-true) at (between y (s.begins (suc y) (omega arith)))
              | no k ↦ s.begins y (omega arith)
            ]
        | no h ↦
            elim (dec_le y (w + c)) [
              | yes k ↦ s.ends y (elim (dec_lt y (w + c)) [ yes i ↦ absurd (out (omega arith) i) | no i ↦ omega arith ])
              | no k ↦
                  let z = y - 2 in
                  let e : y ≡ suc (suc z) = omega arith in
                  rw e (rw (s.holds z (omega arith) (omega arith)) at (between z (s.ends (suc z) (omega arith))))
            ]
      ]

module _ {columns rows : ℕ} {B : ℕ → ℕ → Bool} (S : Settled columns rows B) where
  open S use {near, between, east-edge, north-edge}

  -- of a two by two square, one pair of diagonal nodes is bad exactly if the other is
  diagonal : (x y : ℕ) → B x y && B (suc x) (suc y) ≡ B (suc x) y && B x (suc y)
  diagonal x y = near x y (suc y) (omega arith) (omega arith)

  columns-alike : (y : ℕ) → Alike (column B y) (column B (suc y))
  columns-alike y x = diagonal x y ∙ and_comm (B (suc x) y) (B x (suc y))

  rectangle : (r c : ℕ) → Corner B r c → Rectangle B (block_at columns rows B r c)
  unfolding block_at
  rectangle r c k =
      record {
        tall = run-some (column B c) rows (λ x. north-edge x c) rows r (omega arith) k.is-bad;
        wide = run-some (B r) columns (east-edge r) columns c (omega arith) k.is-bad;
        row-spans = spans B diagonal r c rows columns k.west east-edge;
        column-spans = spans (column B) columns-alike c r columns rows k.south (λ y x. north-edge x y);
      }

  -- every bad node is in the block of a corner
  pub record Home (x y : ℕ) : Type 0 where
    pub row : ℕ
    pub column : ℕ
    pub is-corner : Corner B row column
    pub within : Within (block_at columns rows B row column) x y

  pub home : (x y : ℕ) → B x y ≡ true → Home x y
  unfolding block_at
  home x y e =
      let l = lead (B x) y e in
      let m = lead (column B l.start) x (l.holds l.start (omega arith) l.early) in
      let s = same B diagonal columns l.start m.start x m.early m.holds in
      let n = run-reaches (column B l.start) rows (λ z. north-edge z l.start) rows m.start x (omega arith) m.early m.holds in
      let e = rw s.east at (run-reaches (B x) columns (east-edge x) columns l.start y (omega arith) l.early l.holds) in
      record {
        row = m.start;
        column = l.start;
        is-corner =
            record {
              is-bad = m.holds m.start (omega arith) m.early;
              west = λ z q. sym (s.west z q) ∙ l.begins z q;
              south = m.begins;
            };
        within = record { south = omega arith; north = omega arith; west = omega arith; east = omega arith };
      }

  ring-clear : (b : Block) → Rectangle B b → (x y : ℕ) → OnRing b x y → B x y ≡ false
  ring-clear b k x y o =
      let n = o.near in
      elim (dec_lt x b.row) [
        | yes h ↦
            fringe (B (suc x)) b.column b.width k.wide y (omega arith) (omega arith) (B x)
            (λ y y' p q. sym (near x y y' p q))
            (k.row-spans (suc x) (omega arith) (omega arith)).holds
            (λ y p q. (k.column-spans y p q).begins x (omega arith))
        | no h ↦
            elim (dec_lt x (b.height + b.row)) [
              | yes i ↦
                  flank (B x) b.column b.width k.wide y (omega arith) (omega arith) (between x)
                  (k.row-spans x (omega arith) i)
                  (λ p q. o.outside (omega arith))
              | no i ↦
                  let z = pred x in
                  let e : x ≡ suc z = omega arith in
                  rw e
                  (fringe (B z) b.column b.width k.wide y (omega arith) (omega arith) (B (suc z))
                  (near z)
                  (k.row-spans z (omega arith) (omega arith)).holds
                  (λ y p q. (k.column-spans y p q).ends (suc z) (omega arith)))
            ]
      ]

  -- the block of a corner is a rectangle of bad nodes, and no place of its ring is bad
  pub walled : (r c : ℕ) → Corner B r c → Walled B (block_at columns rows B r c)
  walled r c k =
      let b = block_at columns rows B r c in
      let s = rectangle r c k in
      record {
        tall = s.tall;
        wide = s.wide;
        inside = λ x y i. (s.row-spans x (omega arith) (omega arith)).holds y (omega arith) (omega arith);
        ring = ring-clear b s;
      }
