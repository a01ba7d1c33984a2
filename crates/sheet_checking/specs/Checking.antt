-- 02, CR 10: what is answered to a partner's sheet, by what a ledger holds and the broadcast list.
use Rattle.std.specs.Prelude.{ℕ, ◌+◌, Bool, true, false, not, ◌||◌, List, [], ◌∷◌, eqb, length, Result, Ok, Err}
use Rattle.std.proofs.Math.Option.{Option, none, some}
use Rattle.bits.specs.Pick.{pick}
use Rattle.bits.specs.Some.{any_of, first}
use Rattle.lookback.specs.Walk.{rows}
use Rattle.held_mask.specs.Mask.{mask_at}
use Rattle.in_force.specs.Bytes.{prn_at}
use Rattle.broadcast.specs.Issues.{issues_refusal}
use Rattle.row.specs.declared.Row.{Row}
use Rattle.list.specs.Rows.{row_in}
use Rattle.sheet_form.specs.Reading.{wrong_at, header_said, rows_said}
use Rattle.sheet_form.specs.declared.Header.{Header}
use Rattle.sheet_writing.specs.Writing.{most_sheet_rows}
use Rattle.sheet_checking.specs.Same.{same_numbers}
use Rattle.sheet_checking.specs.declared.Fault.{Fault}
use Rattle.sheet_checking.specs.declared.Fault.TheVariants as fault

-- 02, CR 10: the number and the values of each answer: accepted is 0 and how many of our rows were left out; a sheet that cannot be read is 23 and the
-- offset; a row of an unknown slot is 24 and its number, one of other numbers 25, a repeated one 26; any other refusal is its number alone
abbrev pub checked_says : Result ℕ Fault → List ℕ
checked_says (Ok left) = 0 ∷ left ∷ []
checked_says (Err (fault.Number n)) = n ∷ []
checked_says (Err (fault.Wrong at)) = 23 ∷ at ∷ []
checked_says (Err (fault.Unknown k)) = 24 ∷ k ∷ []
checked_says (Err (fault.Other k)) = 25 ∷ k ∷ []
checked_says (Err (fault.Repeated k)) = 26 ∷ k ∷ []

-- the same of a row: nothing where it is not refused
abbrev pub row_says : Result (Unit {0}) Fault → List ℕ
row_says (Ok _) = []
row_says (Err f) = checked_says (Err f)

-- the refusal of row k, and its number
abbrev pub refused_row : ℕ → ℕ → List ℕ
refused_row n k = pick (eqb n 0) [] (n ∷ k ∷ [])

-- a row is that of a slot
abbrev pub is_of : ℕ → Row → List Row → Bool
is_of slot r rest = eqb r.slot.0 slot

-- some of the rows is that of a slot
unfoldable pub names : List Row → ℕ → Bool
names rs slot = any_of (is_of slot) rs

-- 02, CR 10, 24: unknown slot: our list has no row of it
abbrev pub is_unknown : Option Row → Bool
is_unknown none = true
is_unknown (some ours) = false

-- 02, CR 10, 25: other numbers than those of our row
abbrev pub differs : Row → Option Row → Bool
differs r none = false
differs r (some ours) = not (same_numbers r ours)

-- 02, CR 10: the lowest that applies to a row, by our row of its slot and whether an earlier row has its slot; 0 if none does
unfoldable pub row_refusal : Row → Option Row → Bool → ℕ
row_refusal r ours again = first ((24, is_unknown ours) ∷ (25, differs r ours) ∷ (26, again) ∷ [])

-- the same of a row of a sheet, after the earlier rows
abbrev pub row_refusal_after : List ℕ → List ℕ → List Row → Row → ℕ
row_refusal_after s is earlier r = row_refusal r (row_in s is r.slot.0) (names earlier r.slot.0)

-- 02, CR 10: the refusal and the number of the first offending row, where the first of them has number k
unfoldable pub offence_from : List ℕ → List ℕ → List Row → ℕ → List Row → Option (ℕ × ℕ)
offence_from s is earlier k [] = none
offence_from s is earlier k (r ∷ rs) =
    pick (eqb (row_refusal_after s is earlier r) 0) (offence_from s is (r ∷ earlier) (k + 1) rs) (some (row_refusal_after s is earlier r, k))

-- 02, CR 10: the first offending row, from 1
abbrev pub offence : List ℕ → List ℕ → List Row → Option (ℕ × ℕ)
offence s is rs = offence_from s is [] 1 rs

-- our row of a slot, where the sheet's rows left it out
abbrev pub left_at : List ℕ → List ℕ → List Row → ℕ → Option Row
left_at s is rs slot = pick (names rs slot) none (row_in s is slot)

-- 02, CR 10: how many of our rows the sheet's rows left out
unfoldable pub left_out : List ℕ → List ℕ → List Row → ℕ
left_out s is rs = length (rows (left_at s is rs))

-- what is said of the rows: the first offending one, or how many are left out
abbrev pub rows_say : List ℕ → List ℕ → List Row → Option (ℕ × ℕ) → List ℕ
rows_say s is rs (some o) = o.0 ∷ o.1 ∷ []
rows_say s is rs none = 0 ∷ left_out s is rs ∷ []

-- 02, CR 10, 27: PRN, SSR or IODP differ from the ledger's
abbrev pub is_other : List ℕ → Header → Bool
is_other s h = not (eqb h.prn (prn_at s)) || not (eqb h.ssr (mask_at s).ssr) || not (eqb h.iodp (mask_at s).iodp)

-- what is said of a sheet: 23 where it is wrong, 27 if its header is not the ledger's, else what is said of its rows
abbrev pub sheet_say : List ℕ → List ℕ → List ℕ → Option ℕ → List ℕ
sheet_say s is t (some at) = 23 ∷ at ∷ []
sheet_say s is t none = pick (is_other s (header_said t)) (27 ∷ []) (rows_say s is (rows_said t) (offence s is (rows_said t)))

-- 02, CR 10: 1 and 17 for the issues, 20 with no mask in force, then what is said of the sheet, whose rows stand in any order
unfoldable pub checked_answer : List ℕ → List ℕ → List ℕ → List ℕ
checked_answer s is t =
    pick (eqb (issues_refusal is) 0)
    (pick (mask_at s).has (sheet_say s is t (wrong_at most_sheet_rows false t)) (20 ∷ []))
    (issues_refusal is ∷ [])
