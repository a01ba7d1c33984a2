-- 01, What the ledger keeps: the list, by what a ledger holds, and what it answers.
use Rattle.std.specs.Prelude.{ℕ, ◌≤◌, not, ◌||◌, List, [], ◌∷◌, eqb, ltb, length, Result, Ok, Err}
use Rattle.std.proofs.Math.Option.{Option, none, some}
use Rattle.bits.specs.Pick.{pick}
use Rattle.bits.specs.Some.{any_of, first}
use Rattle.lookback.specs.Walk.{to_list, rows, nth_of}
use Rattle.broadcast.specs.Issues.{is_ill, issues_refusal, issue_of}
use Rattle.row.specs.Row.{row_held, answer_of}
use Rattle.row.specs.declared.Row.{Row}
use Rattle.verdict.specs.declared.Refused.{Refused}

-- the row of each slot, by what a ledger's bytes hold
abbrev pub row_in : List ℕ → List ℕ → ℕ → Option Row
row_in s is slot = row_held s (issue_of is slot) slot

-- 01: the list: the rows of the slots that qualify, in rising slot order
abbrev pub list_in : List ℕ → List ℕ → List Row
list_in s is = rows (row_in s is)

-- 01, Slots and places: so many slots have a satellite
abbrev pub most_rows : ℕ
most_rows = 174

-- what is promised of the list of any bytes and any issues: room for 174 rows holds it
abbrev pub Fits : List Row → Type 0
Fits l = length l ≤ most_rows

-- 1 for an answer with a row, 0 for one without
abbrev pub found_count : ℕ × Option Row → ℕ
found_count a = length (to_list a.1)

-- 01, Refusal numbers: the number and the value of each count; rows are 0 and how many, a refusal its number alone
abbrev pub count_says : Result ℕ Refused → ℕ × Option ℕ
count_says (Ok n) = (0, some n)
count_says (Err n) = (n.0, none)

-- 01: the number of rows; 1 and 17
unfoldable pub count_answer : List ℕ → List ℕ → ℕ × Option ℕ
count_answer s is = pick (eqb (issues_refusal is) 0) (0, some (length (list_in s is))) (issues_refusal is, none)

-- 01: the n-th row, from 1; 1, 17, and 18 for a position 0 or above the number of rows
unfoldable pub row_at_answer : List ℕ → List ℕ → ℕ → ℕ × Option Row
row_at_answer s is n = answer_of (issues_refusal is) (nth_of (list_in s is) n)

-- 01: the row of a slot; 1, 11 for slot 0 or above 255, 17, 18 if it does not qualify
unfoldable pub row_of_slot_answer : List ℕ → List ℕ → ℕ → ℕ × Option Row
row_of_slot_answer s is slot =
    answer_of
    (first ((1, not (eqb (length is) 255)) ∷ (11, eqb slot 0 || ltb 255 slot) ∷ (17, any_of is_ill is) ∷ []))
    (row_in s is slot)
