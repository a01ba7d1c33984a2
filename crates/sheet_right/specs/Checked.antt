-- 02, CR 10: what is shown of checking a partner's sheet.
use Rattle.std.specs.Prelude.{ℕ, ◌+◌, ◌<◌, ◌≡◌, ◌↔◌, true, false, get_or, length, take}
use mathlib.Core.List.{List, [], ◌∷◌, Memᴰ, Permᴰ}
use Rattle.std.proofs.Math.Option.{none}
use Rattle.bits.specs.Bytes.{Bytes}
use Rattle.lookback.specs.Walk.{rows}
use Rattle.frame.specs.Frame.{is_prn}
use Rattle.held_mask.specs.Mask.{mask_at}
use Rattle.in_force.specs.Bytes.{prn_at, Holds}
use Rattle.broadcast.specs.Issues.{issues_refusal}
use Rattle.row.specs.declared.Row.{Row}
use Rattle.list.specs.Rows.{list_in}
use Rattle.sheet_form.specs.Layout.{sheet_of, sheet_length}
use Rattle.sheet_form.specs.Reading.{wrong_at, header_said, rows_said}
use Rattle.sheet_writing.specs.Writing.{most_sheet_rows, sheet_refusal, sheet_room, sheet_for}
use Rattle.sheet_checking.specs.Checking.{left_at, checked_answer}

-- 02, CR 10, none twice: no two places have rows of one slot
abbrev pub NoneTwice : List Row → Type 0
NoneTwice rs = (i j : ℕ) (d : Row) → i < length rs → j < length rs → (get_or rs i d).slot.0 ≡ (get_or rs j d).slot.0 → i ≡ j

-- 02, CR 10: the issues are well formed and a mask is in force; the sheet can be read with rows in any order, its header agrees with the ledger, and
-- each row is a row of our list, none twice; our list has n rows more than the sheet
pub record Accepts (s is t : List ℕ) (n : ℕ) : Type 0 where
  pub issues : issues_refusal is ≡ 0
  pub mask : (mask_at s).has ≡ true
  pub read : wrong_at most_sheet_rows false t ≡ none
  pub prn : (header_said t).prn ≡ prn_at s
  pub ssr : (header_said t).ssr ≡ (mask_at s).ssr
  pub iodp : (header_said t).iodp ≡ (mask_at s).iodp
  pub ours : (r : Row) → Memᴰ r (rows_said t) → Memᴰ r (list_in s is)
  pub once : NoneTwice (rows_said t)
  pub left : length (list_in s is) ≡ n + length (rows_said t)

-- 02, CR 10: a sheet is accepted exactly when that holds
abbrev pub AcceptedExactly : Type 0
AcceptedExactly = (s is t : List ℕ) (n : ℕ) → checked_answer s is t ≡ 0 ∷ n ∷ [] ↔ Accepts s is t n

-- 02, CR 10: n counts our rows that the sheet left out: those of our list that are none of the sheet's
pub record LeftOut (s is : List ℕ) (rs : List Row) (n : ℕ) : Type 0 where
  pub counted : n ≡ length (rows (left_at s is rs))
  pub which : (r : Row) → Memᴰ r (rows (left_at s is rs)) ↔ (Memᴰ r (list_in s is) × (Memᴰ r rs → ⊥))

-- 02, CR 10: what an accepted sheet counts
abbrev pub CountsLeftOut : Type 0
CountsLeftOut = (s is t : List ℕ) (n : ℕ) → Accepts s is t n → LeftOut s is (rows_said t) n

-- 02, CR 10: our own writer's sheet is accepted by the same ledger and issues, no frame taken since, none left out
abbrev pub OwnAccepted : Type 0
OwnAccepted =
    (s : List ℕ) (prn : ℕ) (h : List (List ℕ)) (is room : List ℕ)
    → is_prn prn ≡ true
    → Holds s prn h
    → sheet_refusal s is room ≡ 0
    → checked_answer s is (sheet_for s is) ≡ 0 ∷ 0 ∷ []

-- 02, CR 10: so are the bytes that the writer left in the room
abbrev pub WrittenAccepted : Type 0
WrittenAccepted =
    (s : List ℕ) (prn : ℕ) (h : List (List ℕ)) (is room : List ℕ)
    → is_prn prn ≡ true
    → Holds s prn h
    → sheet_refusal s is room ≡ 0
    → checked_answer s is (take (sheet_length (length (list_in s is))) (sheet_room s is room)) ≡ 0 ∷ 0 ∷ []

-- 02, CR 10, rows in any order: what is accepted is accepted with its rows in another order too, with the same count
abbrev pub OtherOrder : Type 0
OtherOrder =
    (s is t : List ℕ) (n : ℕ) (rs : List Row)
    → Bytes t
    → checked_answer s is t ≡ 0 ∷ n ∷ []
    → Permᴰ (rows_said t) rs
    → checked_answer s is (sheet_of (header_said t) rs) ≡ 0 ∷ n ∷ []
