-- The C boundary of 02, CR 14: what the functions over a table of four ledgers answer, and what each lent room then holds. Every one lends the tally
-- too: 39 for a tally of another length, before all else, and then nothing is counted; else every refusal is. It alone changes on a refusal.
use Rattle.std.specs.Prelude.{ℕ, Bool, ◌&&◌, List, eqb, length, replicate}
use Rattle.bits.specs.Pick.{pick}
use Rattle.bits.specs.Bytes.{store_at}
use Rattle.verdict.specs.Verdict.{number_in}
use Rattle.list.specs.Rows.{list_in}
use Rattle.table_form.specs.Table.{ledger_for}
use Rattle.table.specs.Calls.{opening_refusal, opened, closing_refusal, closed, taking_says, taking_bytes}
use Rattle.table_list.specs.Questions.{asking_refusal, row_of_slot_for, sheet_answer_for, sheet_room_for, checked_for}
use Rattle.tally.specs.Tally.{is_tally, counted}
use Rattle.answers.specs.Size.{row_size}
use Rattle.answers.specs.Sized.{sized}
use Rattle.answers.specs.Detail.{detail_in}
use Rattle.row_calls.specs.Rows.{rows_size, rows_bytes, row_or}
use Rattle.sheet_calls.specs.Sheet.{written_in}

-- qvd_table_open: 39, 4, 28, 29
unfoldable pub table_open_answer : List ℕ → List ℕ → ℕ → ℕ
table_open_answer t y prn = sized (is_tally y) (opening_refusal t prn)

-- the table with a ledger opened for the PRN
unfoldable pub table_opened : List ℕ → List ℕ → ℕ → List ℕ
table_opened t y prn = pick (is_tally y) (opened t prn) t

-- the tally after it
unfoldable pub table_open_tally : List ℕ → List ℕ → ℕ → List ℕ
table_open_tally t y prn = counted y (opening_refusal t prn)

-- qvd_table_close: 39, 30
unfoldable pub table_close_answer : List ℕ → List ℕ → ℕ → ℕ
table_close_answer t y prn = sized (is_tally y) (closing_refusal t prn)

-- the table with the PRN's ledger closed
unfoldable pub table_closed : List ℕ → List ℕ → ℕ → List ℕ
table_closed t y prn = pick (is_tally y) (closed t prn) t

-- the tally after it
unfoldable pub table_close_tally : List ℕ → List ℕ → ℕ → List ℕ
table_close_tally t y prn = counted y (closing_refusal t prn)

-- qvd_table_take, qvd_table_take_detail: 39, then what the table says of the frame: its number, or all of it
unfoldable pub table_take_answer : (List ℕ → ℕ) → List ℕ → List ℕ → List ℕ → ℕ
table_take_answer say t y f = sized (is_tally y) (say (taking_says t f))

-- the table with the frame taken by the ledger of its PRN
unfoldable pub table_taken : List ℕ → List ℕ → List ℕ → List ℕ
table_taken t y f = pick (is_tally y) (taking_bytes t f) t

-- the tally after it
unfoldable pub table_take_tally : List ℕ → List ℕ → List ℕ → List ℕ
table_take_tally t y f = counted y (number_in (taking_says t f))

-- 39 where n bytes are not the room of 174 rows; 39, 1, 17, 30
abbrev pub rows_for_refusal : List ℕ → ℕ → List ℕ → ℕ → ℕ
rows_for_refusal t prn is n = sized (eqb n rows_size) (asking_refusal t prn is)

-- qvd_table_rows: 39, 1, 17, 30
unfoldable pub table_rows_answer : List ℕ → List ℕ → ℕ → List ℕ → List ℕ → ℕ
table_rows_answer t y prn is room = sized (is_tally y) (rows_for_refusal t prn is (length room))

-- the rows of the PRN's list in rising slot order, then zeros
unfoldable pub table_rows_room : List ℕ → List ℕ → ℕ → List ℕ → List ℕ → List ℕ
table_rows_room t y prn is room =
    pick (eqb (table_rows_answer t y prn is room) 0) (store_at (replicate rows_size 0) 0 (rows_bytes (list_in (ledger_for t prn) is))) room

-- the tally after it
unfoldable pub table_rows_tally : List ℕ → List ℕ → ℕ → List ℕ → List ℕ → List ℕ
table_rows_tally t y prn is room = counted y (rows_for_refusal t prn is (length room))

-- as long as a row
abbrev pub is_row_room : List ℕ → Bool
is_row_room room = eqb (length room) row_size

-- 39 where the room is not that of a row; 39, 1, 11, 17, 30, 18
abbrev pub row_for_refusal : List ℕ → ℕ → List ℕ → ℕ → List ℕ → ℕ
row_for_refusal t prn is slot room = sized (is_row_room room) (row_of_slot_for t prn is slot).0

-- qvd_table_row: 39, 1, 11, 17, 30, 18
unfoldable pub table_row_answer : List ℕ → List ℕ → ℕ → List ℕ → ℕ → List ℕ → ℕ
table_row_answer t y prn is slot room = sized (is_tally y) (row_for_refusal t prn is slot room)

-- the row of the slot
unfoldable pub table_row_room : List ℕ → List ℕ → ℕ → List ℕ → ℕ → List ℕ → List ℕ
table_row_room t y prn is slot room = pick (is_tally y && is_row_room room) (row_or (row_of_slot_for t prn is slot).1 room) room

-- the tally after it
unfoldable pub table_row_tally : List ℕ → List ℕ → ℕ → List ℕ → ℕ → List ℕ → List ℕ
table_row_tally t y prn is slot room = counted y (row_for_refusal t prn is slot room)

-- qvd_table_write_sheet: 39, 1, 17, 30, 20, 22, or 256 × the sheet's length
unfoldable pub table_sheet_answer : List ℕ → List ℕ → ℕ → List ℕ → List ℕ → ℕ
table_sheet_answer t y prn is room = sized (is_tally y) (written_in (sheet_answer_for t prn is room))

-- the sheet of the PRN's list, and the room past it as it was; on a refusal all of it
unfoldable pub table_sheet_room : List ℕ → List ℕ → ℕ → List ℕ → List ℕ → List ℕ
table_sheet_room t y prn is room = pick (is_tally y) (sheet_room_for t prn is room) room

-- the tally after it
unfoldable pub table_sheet_tally : List ℕ → List ℕ → ℕ → List ℕ → List ℕ → List ℕ
table_sheet_tally t y prn is room = counted y (sheet_answer_for t prn is room).0

-- qvd_table_check_sheet: 39, then what the check says: the refusal number and 256 × the value beside it, or 256 × the rows left out
unfoldable pub table_check_answer : List ℕ → List ℕ → ℕ → List ℕ → List ℕ → ℕ
table_check_answer t y prn is sheet = sized (is_tally y) (detail_in (checked_for t prn is sheet))

-- the tally after it
unfoldable pub table_check_tally : List ℕ → List ℕ → ℕ → List ℕ → List ℕ → List ℕ
table_check_tally t y prn is sheet = counted y (number_in (checked_for t prn is sheet))
