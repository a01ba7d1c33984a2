-- The C boundary of 02, CR 7 and CR 10: what the functions over correction sheets answer, and what each lent room then holds.
use Rattle.std.specs.Prelude.{ℕ, ◌+◌, ◌*◌, Bool, true, ◌&&◌, List, ◌∷◌, eqb, length, replicate}
use Rattle.std.proofs.Math.Option.{Option, none, some}
use Rattle.bits.specs.Pick.{pick}
use Rattle.bits.specs.Bytes.{store_at}
use Rattle.sheet_form.specs.Layout.{bytes_of_two}
use Rattle.sheet_form.specs.Reading.{header_said, rows_said}
use Rattle.sheet_form.specs.declared.Header.{Header}
use Rattle.sheet_writing.specs.Writing.{most_sheet_rows, sheet_answer, sheet_room}
use Rattle.sheet_reading.specs.Answer.{read_answer}
use Rattle.sheet_checking.specs.Checking.{checked_answer}
use Rattle.answers.specs.Size.{sheet_header_size}
use Rattle.answers.specs.Sized.{sized, is_ledger}
use Rattle.answers.specs.Detail.{detail_in}
use Rattle.row_calls.specs.Rows.{rows_size, rows_bytes}

-- the value beside a number, 0 where there is none
abbrev pub value_in : Option ℕ → ℕ
value_in (some n) = n
value_in none = 0

-- 256 × the length of a sheet that is written, or the refusal number
abbrev pub written_in : ℕ × Option ℕ → ℕ
written_in a = a.0 + 256 * value_in a.1

-- qvd_write_sheet: 39, 1, 17, 20, 22, or 256 × the sheet's length
unfoldable pub write_sheet_answer : List ℕ → List ℕ → List ℕ → ℕ
write_sheet_answer s is room = sized (is_ledger s) (written_in (sheet_answer s is room))

-- 02, CR 7: the sheet, and the room past it as it was; on a refusal all of it
unfoldable pub write_sheet_room : List ℕ → List ℕ → List ℕ → List ℕ
write_sheet_room s is room = pick (is_ledger s) (sheet_room s is room) room

-- what a header says: PRN, IOD SSR, IODP (1 each), row count (2)
abbrev pub header_bytes : Header → List ℕ
header_bytes h = h.prn ∷ h.ssr ∷ h.iodp ∷ bytes_of_two h.rows

-- the lengths that a sheet's reading asks for: room for what a header says, and for 174 rows
abbrev pub is_said : List ℕ → List ℕ → Bool
is_said header rows = eqb (length header) sheet_header_size && eqb (length rows) rows_size

-- qvd_read_sheet: 39, 23 + 256 × the offset, or 0
unfoldable pub read_sheet_answer : List ℕ → List ℕ → List ℕ → ℕ
read_sheet_answer s header rows = sized (is_said header rows) (detail_in (read_answer most_sheet_rows true s).0)

-- 02, CR 7: what the sheet's header says; on a refusal the room as it was
unfoldable pub read_sheet_header : List ℕ → List ℕ → List ℕ → List ℕ
read_sheet_header s header rows = pick (eqb (read_sheet_answer s header rows) 0) (header_bytes (header_said s)) header

-- 02, CR 7: the sheet's rows, then zeros; on a refusal the room as it was
unfoldable pub read_sheet_rows : List ℕ → List ℕ → List ℕ → List ℕ
read_sheet_rows s header rows = pick (eqb (read_sheet_answer s header rows) 0) (store_at (replicate rows_size 0) 0 (rows_bytes (rows_said s))) rows

-- qvd_check_sheet: 39, then what the check says: the refusal number and 256 × the value beside it (the offset of 23, the row of 24 to 26), or 256 × the rows left out
unfoldable pub check_sheet_answer : List ℕ → List ℕ → List ℕ → ℕ
check_sheet_answer s is t = sized (is_ledger s) (detail_in (checked_answer s is t))
