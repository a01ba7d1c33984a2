-- 02, CR 7: what the writer of a sheet answers, and what the lent room then holds.
use Rattle.std.specs.Prelude.{ℕ, not, List, [], ◌∷◌, eqb, ltb, length, Result, Ok, Err}
use Rattle.std.proofs.Math.Option.{Option, none, some}
use Rattle.bits.specs.Pick.{pick}
use Rattle.bits.specs.Some.{first}
use Rattle.bits.specs.Bytes.{store_at}
use Rattle.held_mask.specs.Mask.{mask_at}
use Rattle.in_force.specs.Bytes.{prn_at}
use Rattle.broadcast.specs.Issues.{issues_refusal}
use Rattle.list.specs.Rows.{list_in, most_rows}
use Rattle.sheet_form.specs.Layout.{sheet_of, sheet_length}
use Rattle.sheet_form.specs.declared.Header.{Header}
use Rattle.verdict.specs.declared.Refused.{Refused}

-- 02, CR 11: at most as many rows as slots have a satellite
abbrev pub most_sheet_rows : ℕ
most_sheet_rows = most_rows

-- 02, CR 7: the number and the value of each answer; a sheet that is written is 0 and its length, a refusal its number alone
abbrev pub sheet_says : Result ℕ Refused → ℕ × Option ℕ
sheet_says (Ok n) = (0, some n)
sheet_says (Err n) = (n.0, none)

-- 02, CR 7: the header of a ledger's list of n rows: the ledger's PRN, IOD SSR and IODP of the mask in force, and how many rows
abbrev pub header_of : List ℕ → ℕ → Header
header_of s n = record { prn = prn_at s; ssr = (mask_at s).ssr; iodp = (mask_at s).iodp; rows = n }

-- the header of a ledger's list
unfoldable pub header_for : List ℕ → List ℕ → Header
header_for s is = header_of s (length (list_in s is))

-- 02, CR 7: the sheet of a ledger's list
unfoldable pub sheet_for : List ℕ → List ℕ → List ℕ
sheet_for s is = sheet_of (header_for s is) (list_in s is)

-- 02, CR 7: 1 and 17 for the issues, 20 with no mask in force, 22 with room shorter than the sheet, in that order; 02, CR 11: 21 has retired
unfoldable pub sheet_refusal : List ℕ → List ℕ → List ℕ → ℕ
sheet_refusal s is room =
    first
    ((issues_refusal is, not (eqb (issues_refusal is) 0))
    ∷ (20, not (mask_at s).has)
    ∷ (22, ltb (length room) (sheet_length (length (list_in s is))))
    ∷ [])

-- 02, CR 7: the sheet's length, or the refusal alone
unfoldable pub sheet_answer : List ℕ → List ℕ → List ℕ → ℕ × Option ℕ
sheet_answer s is room =
    pick (eqb (sheet_refusal s is room) 0) (0, some (sheet_length (length (list_in s is)))) (sheet_refusal s is room, none)

-- 02, CR 7: the sheet, and the room past it as it was; on a refusal all of it
unfoldable pub sheet_room : List ℕ → List ℕ → List ℕ → List ℕ
sheet_room s is room = pick (eqb (sheet_refusal s is room) 0) (store_at room 0 (sheet_for s is)) room
