-- The C boundary: what the calls for rows answer, and what each lent room then holds. 39 before all else; a refusal leaves the room as it was.
use Rattle.std.specs.Prelude.{ℕ, ◌*◌, ◌≡◌, Bool, ◌&&◌, List, [], ◌∷◌, ◌++◌, eqb, length, replicate}
use Rattle.std.proofs.Math.Option.{Option, none, some}
use Rattle.bits.specs.Pick.{pick}
use Rattle.bits.specs.Bytes.{store_at, row_at}
use Rattle.broadcast.specs.Issues.{issues_refusal}
use Rattle.list.specs.Rows.{list_in, row_of_slot_answer}
use Rattle.row.specs.declared.Row.{Row}
use Rattle.flat_forms.specs.Write.{row_bytes}
use Rattle.answers.specs.Size.{row_size}
use Rattle.answers.specs.Sized.{sized, is_ledger}

-- the bytes of 174 rows, as many as a mask has slots that are not reserved
abbrev pub rows_size : ℕ
rows_size = 174 * row_size

-- the bytes of some rows, one after the other
unfoldable pub rows_bytes : List Row → List ℕ
rows_bytes [] = []
rows_bytes (r ∷ rs) = row_bytes r ++ rows_bytes rs

-- the bytes of an answer's row, none where it has none
abbrev pub answer_bytes : Option Row → List ℕ
answer_bytes (some r) = row_bytes r
answer_bytes none = []

-- 01, 1: the rows of the list in rising slot order, then zeros; the room as it was where the broadcast list is not 255 numbers
unfoldable pub rows_filled : List ℕ → List ℕ → List ℕ → List ℕ
rows_filled s is room = pick (eqb (length is) 255) (store_at (replicate (length room) 0) 0 (rows_bytes (list_in s is))) room

-- the lengths that the rows ask for: a ledger, and room for 174 rows
abbrev pub is_rows : List ℕ → List ℕ → Bool
is_rows s room = is_ledger s && eqb (length room) rows_size

-- qvd_rows: 39, 1, 17
unfoldable pub rows_answer : List ℕ → List ℕ → List ℕ → ℕ
rows_answer s is room = sized (is_rows s room) (issues_refusal is)

-- the rows of the list in rising slot order, then zeros
unfoldable pub rows_room : List ℕ → List ℕ → List ℕ → List ℕ
rows_room s is room = pick (eqb (rows_answer s is room) 0) (store_at (replicate rows_size 0) 0 (rows_bytes (list_in s is))) room

-- 02, CR 11: what is promised of that room: no row is lost by it, it begins with the bytes of all rows of the list
abbrev pub AllRows : Type 0
AllRows =
    (s is room : List ℕ) → rows_answer s is room ≡ 0 → row_at (rows_room s is room) 0 (row_size * length (list_in s is)) ≡ rows_bytes (list_in s is)

-- the lengths that a row asks for: a ledger, and room for one
abbrev pub is_row : List ℕ → List ℕ → Bool
is_row s room = is_ledger s && eqb (length room) row_size

-- qvd_row: 39, 1, 11, 17, 18
unfoldable pub row_answer : List ℕ → List ℕ → ℕ → List ℕ → ℕ
row_answer s is slot room = sized (is_row s room) (row_of_slot_answer s is slot).0

-- the row's bytes, or the room as it was
abbrev pub row_or : Option Row → List ℕ → List ℕ
row_or (some r) room = row_bytes r
row_or none room = room

-- the row of the slot
unfoldable pub row_room : List ℕ → List ℕ → ℕ → List ℕ → List ℕ
row_room s is slot room = pick (is_row s room) (row_or (row_of_slot_answer s is slot).1 room) room
