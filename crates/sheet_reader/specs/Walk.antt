-- 02, CR 7: the sheet reader holds the lent sheet and its own place while it walks the rows.
use Rattle.std.specs.Prelude.{ℕ, ◌+◌, ◌*◌, ◌≡◌, List, [], ◌∷◌, ltb}
use Rattle.std.proofs.Math.Option.{Option, none, some}
use Rattle.bits.specs.Pick.{pick}
use Rattle.row.specs.declared.Row.{Row}
use Rattle.sheet_form.specs.Reading.{header_said, row_said, rows_said}
use Rattle.std.specs.Prelude as std

-- 02, CR 7: the first row stands behind the header's 8 bytes
abbrev pub first_row : ℕ
first_row = 8

-- 02, CR 7: the place behind the last row, 24 bytes for each that the header counts
abbrev pub rows_end : List ℕ → ℕ
rows_end s = first_row + 24 * (header_said s).rows

-- what each answer says: a row, or none; 01 and 02 have no number for either
abbrev pub next_says : std.Option Row → Option Row
next_says (std.Some r) = some r
next_says std.None = none

-- 02, CR 7: what a reader finds at a place: what the row there says, or none where the rows are over
unfoldable pub next_found : List ℕ → ℕ → Option Row
next_found s at = pick (ltb at (rows_end s)) (some (row_said s at)) none

-- 02, CR 7: the place of the next row; where the rows are over, the same place
unfoldable pub place_after : List ℕ → ℕ → ℕ
place_after s at = pick (ltb at (rows_end s)) (at + 24) at

-- the rows that a reader gives from a place on until it is done, moved on after each
pub data Gives (s : List ℕ) : ℕ → List Row → Type 0 where
  done : {at : ℕ} → next_found s at ≡ none → Gives s at []
  found : {at : ℕ} {r : Row} {rs : List Row} → next_found s at ≡ some r → Gives s (place_after s at) rs → Gives s at (r ∷ rs)

-- 02, CR 7: from the first row on a reader gives the rows of the sheet, in order, and no others; of any bytes
pub record AllGiven (s : List ℕ) : Type 0 where
  pub given : Gives s first_row (rows_said s)
  pub no_other : (rs : List Row) → Gives s first_row rs → rs ≡ rows_said s
