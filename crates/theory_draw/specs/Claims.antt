-- What is claimed of the numbers of the allowed places, of refusal 24, and of a drawn map. Assumes nothing.
use Rattle.std.specs.Prelude.{◌≡◌, ◌⊎◌, true, false, List, ℕ, ◌<◌}
use Rattle.mesh.specs.declared.Place.{Place}
use Rattle.mesh.specs.Maps.{bad_length, bad_byte, allowed, misplaced}
use Rattle.theory_draw.specs.Draws.{place_count, place_numbered}

-- a place is allowed
abbrev pub Allowed : ℕ → ℕ → Place → Type 0
Allowed columns rows p = allowed columns rows p.row.0 p.column.0 ≡ true

-- it has exactly one number
pub record OneNumber (columns rows : ℕ) (p : Place) : Type 0 where
  pub number : ℕ
  pub low : number < place_count columns rows
  pub is : place_numbered columns rows number ≡ p
  pub only : (k : ℕ) → k < place_count columns rows → place_numbered columns rows k ≡ p → k ≡ number

-- more than 1,000 draws, or a draw on fewer than 5 columns or 3 rows
abbrev pub Undrawable : ℕ → ℕ → ℕ → Type 0
Undrawable columns rows n = (1000 < n) ⊎ ((0 < n) × ((columns < 5) ⊎ (rows < 3)))

-- a map passes refusals 3 to 5
pub record Passes (columns rows : ℕ) (map : List ℕ) : Type 0 where
  pub good_length : bad_length columns rows map ≡ false
  pub good-bytes : bad_byte map ≡ false
  pub placed : misplaced columns rows map ≡ false
