-- 02, CR 14: what the list of a PRN in a table answers, and its sheets. 39 before all else; 30 for a PRN not open, after 1, 11 and 17, before the rest.
use Rattle.std.specs.Prelude.{ℕ, not, ◌||◌, List, [], ◌∷◌, eqb, ltb, length}
use Rattle.std.proofs.Math.Option.{Option, none}
use Rattle.bits.specs.Pick.{pick}
use Rattle.bits.specs.Some.{any_of, first}
use Rattle.broadcast.specs.Issues.{is_ill, issues_refusal}
use Rattle.row.specs.declared.Row.{Row}
use Rattle.list.specs.Rows.{count_answer, row_at_answer, row_of_slot_answer}
use Rattle.sheet_writing.specs.Writing.{sheet_answer, sheet_room}
use Rattle.sheet_checking.specs.Checking.{checked_answer}
use Rattle.table_form.specs.Table.{is_table, has_room, ledger_for}

-- 02, CR 14: 39, then 1 and 17 of the issues, then 30; 0 if none applies
unfoldable pub asking_refusal : List ℕ → ℕ → List ℕ → ℕ
asking_refusal t prn is =
    first ((39, not (is_table t)) ∷ (issues_refusal is, not (eqb (issues_refusal is) 0)) ∷ (30, not (has_room t prn)) ∷ [])

-- 02, CR 14: the same where a slot is asked for: 39, 1, 11, 17, 30
unfoldable pub asking_slot_refusal : List ℕ → ℕ → List ℕ → ℕ → ℕ
asking_slot_refusal t prn is slot =
    first
    ((39, not (is_table t))
    ∷ (1, not (eqb (length is) 255))
    ∷ (11, eqb slot 0 || ltb 255 slot)
    ∷ (17, any_of is_ill is)
    ∷ (30, not (has_room t prn))
    ∷ [])

-- the number of rows, by the PRN's ledger; 39, 1, 17, 30
unfoldable pub count_for : List ℕ → ℕ → List ℕ → ℕ × Option ℕ
count_for t prn is = pick (eqb (asking_refusal t prn is) 0) (count_answer (ledger_for t prn) is) (asking_refusal t prn is, none)

-- the n-th row, from 1; 39, 1, 17, 30, 18
unfoldable pub row_at_for : List ℕ → ℕ → List ℕ → ℕ → ℕ × Option Row
row_at_for t prn is n = pick (eqb (asking_refusal t prn is) 0) (row_at_answer (ledger_for t prn) is n) (asking_refusal t prn is, none)

-- the row of a slot; 39, 1, 11, 17, 30, 18
unfoldable pub row_of_slot_for : List ℕ → ℕ → List ℕ → ℕ → ℕ × Option Row
row_of_slot_for t prn is slot =
    pick (eqb (asking_slot_refusal t prn is slot) 0) (row_of_slot_answer (ledger_for t prn) is slot) (asking_slot_refusal t prn is slot, none)

-- the sheet's length; 39, 1, 17, 30, 20, 22
unfoldable pub sheet_answer_for : List ℕ → ℕ → List ℕ → List ℕ → ℕ × Option ℕ
sheet_answer_for t prn is room = pick (eqb (asking_refusal t prn is) 0) (sheet_answer (ledger_for t prn) is room) (asking_refusal t prn is, none)

-- the sheet, and the room past it as it was; on a refusal all of it
unfoldable pub sheet_room_for : List ℕ → ℕ → List ℕ → List ℕ → List ℕ
sheet_room_for t prn is room = pick (eqb (asking_refusal t prn is) 0) (sheet_room (ledger_for t prn) is room) room

-- what is said of a partner's sheet; 39, 1, 17, 30, 20, 23, 27, 24 to 26 with their values
unfoldable pub checked_for : List ℕ → ℕ → List ℕ → List ℕ → List ℕ
checked_for t prn is sheet = pick (eqb (asking_refusal t prn is) 0) (checked_answer (ledger_for t prn) is sheet) (asking_refusal t prn is ∷ [])
