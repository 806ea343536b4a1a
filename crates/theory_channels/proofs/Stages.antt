-- How many hops the stages of `Rank` have room for. Assumes nothing.
use Rattle.std.proofs.Common.{Option, Some, None, ◌≡◌, refl, ◌∙◌, inl, inr, Bool, true, false, not, cond, ◌&&◌, ◌||◌, ℕ, zero, suc, ◌+◌, ◌-◌, ◌*◌, ◌≤◌, ◌<◌, arith, le-leb, leb}
use Rattle.std.proofs.lemmas.Bool.{cases_Bool, lt-leb}
use Rattle.std.proofs.Math.Bool.{or-true}
use Rattle.mesh.specs.declared.Heading.{Heading}
use Rattle.mesh.specs.declared.Heading.TheVariants.{East as E, North as N, South as S, West as W}
use Rattle.mesh.specs.Rules.{Trip}
use Rattle.theory_channels.specs.Rank.{westbound, eastbound, stage, climb}
use Rattle.theory_channels.specs.Claims.{most_lawful}

module _ (t : Trip) where
  -- stage k has the line of its column: the hops N and S there
  pub has_line : ℕ → Bool
  has_line k = (leb (suc k) t.columns && t.west (t.columns - suc k)) || (leb t.columns (suc k) && not (t.west (suc k - t.columns)))

  -- a column's line is at one of its two stages; column 0 has but one
  module _ (c : ℕ) (i : c < t.columns) where
    west-column : t.columns - suc (westbound t.columns c) ≡ c
    west-column = omega arith

    east-column : suc (eastbound t.columns c) - t.columns ≡ c
    east-column = omega arith

    pub line-west : t.west c ≡ true → has_line (westbound t.columns c) ≡ true
    unfolding has_line
    line-west e = rw (le-leb (suc (westbound t.columns c)) t.columns (omega arith), west-column, e)

    pub line-east : t.west c ≡ false → has_line (eastbound t.columns c) ≡ true
    unfolding has_line
    line-east e = rw (le-leb t.columns (suc (eastbound t.columns c)) (omega arith), east-column, e, or-true)

    pub no-line-west : 1 ≤ c → t.west c ≡ false → has_line (westbound t.columns c) ≡ false
    unfolding has_line
    no-line-west o e =
        rw (
          le-leb (suc (westbound t.columns c)) t.columns (omega arith),
          west-column,
          e,
          lt-leb t.columns (suc (westbound t.columns c)) (omega arith),
        )

    pub no-line-east : 1 ≤ c → t.west c ≡ true → has_line (eastbound t.columns c) ≡ false
    unfolding has_line
    no-line-east o e =
        rw (
          lt-leb (suc (eastbound t.columns c)) t.columns (omega arith),
          le-leb t.columns (suc (eastbound t.columns c)) (omega arith),
          east-column,
          e,
        )

  pub line-middle : 0 < t.columns → has_line (westbound t.columns 0) ≡ true
  line-middle i =
      elim (cases_Bool (t.west 0)) [
        | inl e ↦ line-west 0 i e
        | inr e ↦ let k : eastbound t.columns 0 ≡ westbound t.columns 0 = omega arith in rw (← k) (line-east 0 i e)
      ]

  -- so many hops N or S can be made at stage k,
  room : ℕ → ℕ
  room k = cond (has_line k) (t.rows - 1) 0

  -- and so many hops before it
  pub start : ℕ → ℕ
  start zero = 0
  start (suc k) = start k + suc (room k)

  pub start_none : start 0 ≡ 0
  unfolding start
  start_none = refl

  pub start-line : (k : ℕ) → has_line k ≡ true → start (suc k) ≡ start k + suc (t.rows - 1)
  unfolding start room
  start-line k e = rw e

  pub start-no-line : (k : ℕ) → has_line k ≡ false → start (suc k) ≡ start k + 1
  unfolding start room
  start-no-line k e = rw e

  pub start-rises : (k : ℕ) → start k ≤ start (suc k)
  unfolding start
  start-rises k = omega arith

  line-here : (c : ℕ) → c < t.columns → has_line (stage t.west t.columns (Some N) c) ≡ true
  unfolding stage
  line-here c i = elim (cases_Bool (t.west c)) [ inl e ↦ rw e (line-west c i e) | inr e ↦ rw e (line-east c i e) ]

  -- a packet is no further along its column than its stage has room
  pub climb-fits : (l : Option Heading) {r c : ℕ} → r < t.rows → c < t.columns →
      start (stage t.west t.columns l c) + climb t.rows l r < start (suc (stage t.west t.columns l c))
  unfolding start climb stage room
  climb-fits None i j = omega arith
  climb-fits (Some E) i j = omega arith
  climb-fits (Some N) {r} {c} i j = rw (line-here c j) (omega arith)
  climb-fits (Some S) {r} {c} i j = rw (line-here c j) (omega arith)
  climb-fits (Some W) i j = omega arith

  -- there are 2 columns - 1 stages
  pub stage-low : (l : Option Heading) {c : ℕ} → c < t.columns → stage t.west t.columns l c < t.columns + (t.columns - 1)
  unfolding stage
  stage-low None j = omega arith
  stage-low (Some E) j = omega arith
  stage-low (Some N) {c} j = elim (cases_Bool (t.west c)) [ inl e ↦ rw e (omega arith) | inr e ↦ rw e (omega arith) ]
  stage-low (Some S) {c} j = elim (cases_Bool (t.west c)) [ inl e ↦ rw e (omega arith) | inr e ↦ rw e (omega arith) ]
  stage-low (Some W) j = omega arith

  -- with room for so many hops in all: first those of column 0, then of one column more on either side
  once : (c : ℕ) → 1 ≤ c → c < t.columns → room (westbound t.columns c) + room (eastbound t.columns c) ≡ t.rows - 1
  unfolding room
  once c o i =
      elim (cases_Bool (t.west c)) [
        | inl e ↦ rw (line-west c i e, no-line-east c i o e) (omega arith)
        | inr e ↦ rw (no-line-west c i o e, line-east c i e) (omega arith)
      ]

  there_and_back : (n : ℕ) → n < t.columns → start (t.columns + n) ≡ start (westbound t.columns n) + (2 * n + 1) + suc n * (t.rows - 1)
  unfolding start room
  there_and_back zero i =
      let last : t.columns + 0 ≡ suc (westbound t.columns 0) = omega arith in
      rw (last, line-middle i) (omega arith)
  there_and_back (suc n) i =
      let last : t.columns + suc n ≡ suc (t.columns + n) = omega arith in
      let east : t.columns + n ≡ eastbound t.columns (suc n) = omega arith in
      let west : westbound t.columns n ≡ suc (westbound t.columns (suc n)) = omega arith in
      let inner = rw west at (there_and_back n (omega arith)) in
      let both = once (suc n) (omega arith) i in
      rw (last, inner, east) (omega arith)

  pub all-stages : 0 < t.columns → start (t.columns + (t.columns - 1)) ≡ suc (most_lawful t.columns t.rows)
  all-stages i =
      let first : westbound t.columns (t.columns - 1) ≡ 0 = omega arith in
      let all : suc (t.columns - 1) ≡ t.columns = omega arith in
      (rw (first, start_none, all) at (there_and_back (t.columns - 1) (omega arith))) ∙ omega arith
