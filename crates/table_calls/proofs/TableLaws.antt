-- Laws of the boundary over a table: a tally of another length, and each answer with what is lent.
use mathlib.Core.Path.{◌≡◌, refl, sym, ap, ◌∙◌}
use mathlib.Core.Logic.{◌≢◌}
use Prim.Native.Nat.{ℕ, ◌+◌, ◌*◌, ◌≤◌}
use mathlib.Core.Bool.{Bool, true, false, ◌&&◌}
use mathlib.Core.List.{List, [], ◌∷◌}
use mathlib.Core.Option.{Option, none, some}
use lib.Dec.{eqb}
use lib.ListN.{length, replicate}
use native.Mathlib.Omega.{arith}
use borrow.Author.Tests.{eq-eqb, ne_eqb, eqb-true}
use Rattle.bits.specs.Pick.{pick}
use Rattle.bits.specs.Bytes.{store_at}
use Rattle.verdict.specs.Verdict.{number_in, refused_by}
use Rattle.verdict.proofs.NumberLaws.{number_back}
use Rattle.flat_forms.specs.Write.{row_bytes}
use Rattle.flat_forms.proofs.FlatLaws.{row_whole}
use Rattle.row.specs.declared.Row.{Row}
use Rattle.list.specs.Rows.{list_in}
use Rattle.broadcast.specs.Issues.{issues_refusal}
use Rattle.table_form.specs.Table.{ledger_for}
use Rattle.table.specs.Calls.{opening_refusal, opened, closing_refusal, closed, taking_says, taking_bytes}
use Rattle.table_list.specs.Questions.{asking_refusal, row_of_slot_for, sheet_answer_for, sheet_room_for, checked_for}
use Rattle.table_list.proofs.AskLaws.{asked_issues}
use Rattle.tally.specs.Tally.{tally_size, is_tally, one_more, bytes_of, counted}
use Rattle.lent.specs.Digits.{four_at}
use Rattle.sheet_writing.specs.Writing.{most_sheet_rows}
use Rattle.sheet_checking.specs.Checking.{checked_answer}
use Rattle.answers.specs.Size.{row_size}
use Rattle.answers.specs.Sized.{sized}
use Rattle.answers.specs.Detail.{detail_in}
use Rattle.row_calls.specs.Rows.{rows_size, rows_bytes}
use Rattle.sheet_calls.specs.Sheet.{written_in}
use Rattle.sheet_calls.proofs.CheckSheetLaws.{check_near}
use Rattle.table_calls.specs.Table.{table_open_answer, table_opened, table_open_tally, table_close_answer, table_closed, table_close_tally, table_take_answer, table_taken, table_take_tally, rows_for_refusal, table_rows_answer, table_rows_room, table_rows_tally, row_for_refusal, table_row_answer, table_row_room, table_row_tally, table_sheet_answer, table_sheet_room, table_sheet_tally, table_check_answer, table_check_tally}

-- a tally of another length counts nothing
none_counted : (y : List ℕ) (n : ℕ) → length y ≢ tally_size → y ≡ counted y n
unfolding counted
none_counted y n z = rw (ne_eqb _ _ z)

-- what is taken is not counted
pub taken_still : (y : List ℕ) → counted y 0 ≡ y
unfolding counted
taken_still y = go (is_tally y)
  where
    go : (b : Bool) → pick (b && false) (store_at y 0 (bytes_of (one_more (four_at y 0)))) y ≡ y
    go true = refl
    go false = refl

-- the number of what is said is the one that is counted
abbrev pub numbered_by : ℕ → ℕ
numbered_by n = number_in (refused_by n)

-- ---- opening
module _ (t y : List ℕ) (prn : ℕ) where
  abbrev pub Opens : ℕ → List ℕ → List ℕ → Type 0
  Opens n u z = (n ≡ table_open_answer t y prn) × ((u ≡ table_opened t y prn) × (z ≡ table_open_tally t y prn))

  pub table_open_tally_lem : length y ≢ tally_size → Opens 39 t y
  unfolding table_open_answer table_opened table_open_tally
  table_open_tally_lem z = (rw (ne_eqb _ _ z), (rw (ne_eqb _ _ z), none_counted y (opening_refusal t prn) z))

  pub table_open_right : (n : ℕ) (u z : List ℕ) → length y ≡ tally_size → n ≡ numbered_by (opening_refusal t prn) → u ≡ opened t prn → z ≡ counted y n → Opens n u z
  unfolding table_open_answer table_opened table_open_tally
  table_open_right n u z l a b d =
      let e = a ∙ number_back (opening_refusal t prn) in
      (rw (eq-eqb _ _ l) e, (rw (eq-eqb _ _ l) b, d ∙ ap (counted y) e))

-- ---- closing
module _ (t y : List ℕ) (prn : ℕ) where
  abbrev pub Closes : ℕ → List ℕ → List ℕ → Type 0
  Closes n u z = (n ≡ table_close_answer t y prn) × ((u ≡ table_closed t y prn) × (z ≡ table_close_tally t y prn))

  pub table_close_tally_lem : length y ≢ tally_size → Closes 39 t y
  unfolding table_close_answer table_closed table_close_tally
  table_close_tally_lem z = (rw (ne_eqb _ _ z), (rw (ne_eqb _ _ z), none_counted y (closing_refusal t prn) z))

  pub table_close_right : (n : ℕ) (u z : List ℕ) → length y ≡ tally_size → n ≡ numbered_by (closing_refusal t prn) → u ≡ closed t prn → z ≡ counted y n → Closes n u z
  unfolding table_close_answer table_closed table_close_tally
  table_close_right n u z l a b d =
      let e = a ∙ number_back (closing_refusal t prn) in
      (rw (eq-eqb _ _ l) e, (rw (eq-eqb _ _ l) b, d ∙ ap (counted y) e))

-- ---- a frame
module _ (say : List ℕ → ℕ) (t y f : List ℕ) where
  abbrev pub Takes : ℕ → List ℕ → List ℕ → Type 0
  Takes n u z = (n ≡ table_take_answer say t y f) × ((u ≡ table_taken t y f) × (z ≡ table_take_tally t y f))

  pub table_take_tally_lem : length y ≢ tally_size → Takes 39 t y
  unfolding table_take_answer table_taken table_take_tally
  table_take_tally_lem z = (rw (ne_eqb _ _ z), (rw (ne_eqb _ _ z), none_counted y (number_in (taking_says t f)) z))

  pub table_take_right : (said : List ℕ) (k n : ℕ) (u z : List ℕ) → length y ≡ tally_size → said ≡ taking_says t f → k ≡ say said → n ≡ number_in said →
      u ≡ taking_bytes t f → z ≡ counted y n → Takes k u z
  unfolding table_take_answer table_taken table_take_tally
  table_take_right said k n u z l s a e b d =
      (rw (eq-eqb _ _ l) (a ∙ ap say s), (rw (eq-eqb _ _ l) b, d ∙ ap (counted y) (e ∙ ap number_in s)))

-- ---- the rows of a PRN's list
module _ (t y : List ℕ) (prn : ℕ) (is room : List ℕ) where
  abbrev pub GivesRows : ℕ → List ℕ → List ℕ → Type 0
  GivesRows n r z = (n ≡ table_rows_answer t y prn is room) × ((r ≡ table_rows_room t y prn is room) × (z ≡ table_rows_tally t y prn is room))

  pub table_rows_tally_lem : length y ≢ tally_size → GivesRows 39 room y
  unfolding table_rows_answer table_rows_room table_rows_tally
  table_rows_tally_lem z = (rw (ne_eqb _ _ z), (rw (ne_eqb _ _ z), none_counted y (rows_for_refusal t prn is (length room)) z))

  module _ (l : length y ≡ tally_size) where
    pub table_rows_bad : (n : ℕ) (z : List ℕ) → n ≡ rows_for_refusal t prn is (length room) → n ≢ 0 → z ≡ counted y n → GivesRows n room z
    unfolding table_rows_answer table_rows_room table_rows_tally
    table_rows_bad n z e o d =
        let q = eq-eqb _ _ l in
        (rw q e, (rw (q, ← e, ne_eqb n 0 o), d ∙ ap (counted y) e))

    pub table_rows_right : (r : List ℕ) → rows_for_refusal t prn is (length room) ≡ 0 → length room ≡ rows_size →
        r ≡ store_at (replicate (length room) 0) 0 (rows_bytes (list_in (ledger_for t prn) is)) → GivesRows 0 r y
    unfolding table_rows_answer table_rows_room table_rows_tally
    table_rows_right r o s b =
        let q = eq-eqb _ _ l in
        (rw q (sym o), (rw (q, o) (b ∙ rw s), sym (taken_still y) ∙ ap (counted y) (sym o)))

-- what refuses the rows: their room, then the question
module _ (t : List ℕ) (prn : ℕ) (is : List ℕ) (k : ℕ) where
  pub rows_room : k ≢ rows_size → 39 ≡ rows_for_refusal t prn is k
  rows_room n = rw (ne_eqb _ _ n)

  pub rows_asked : (n : ℕ) → k ≡ rows_size → n ≡ asking_refusal t prn is → n ≡ rows_for_refusal t prn is k
  rows_asked n l e = rw (eq-eqb _ _ l) e

  -- where nothing does, the room is that of the rows, and the issues are right
  pub rows_sound : rows_for_refusal t prn is k ≡ 0 → (k ≡ rows_size) × (issues_refusal is ≡ 0)
  rows_sound e = go (eqb k rows_size) refl e
    where
      go : (b : Bool) → eqb k rows_size ≡ b → sized b (asking_refusal t prn is) ≡ 0 → (k ≡ rows_size) × (issues_refusal is ≡ 0)
      go true q h = (eqb-true k rows_size q, asked_issues t prn is h)
      go false q h = absurd (omega arith)

-- ---- the row of a slot
module _ (t y : List ℕ) (prn : ℕ) (is : List ℕ) (slot : ℕ) (room : List ℕ) where
  abbrev pub GivesRow : ℕ → List ℕ → List ℕ → Type 0
  GivesRow n r z = (n ≡ table_row_answer t y prn is slot room) × ((r ≡ table_row_room t y prn is slot room) × (z ≡ table_row_tally t y prn is slot room))

  pub table_row_tally_lem : length y ≢ tally_size → GivesRow 39 room y
  unfolding table_row_answer table_row_room table_row_tally
  table_row_tally_lem z = (rw (ne_eqb _ _ z), (rw (ne_eqb _ _ z), none_counted y (row_for_refusal t prn is slot room) z))

  module _ (l : length y ≡ tally_size) where
    pub table_row_room_lem : (z : List ℕ) → length room ≢ row_size → z ≡ counted y 39 → GivesRow 39 room z
    unfolding table_row_answer table_row_room table_row_tally
    table_row_room_lem z n d = (rw (eq-eqb _ _ l, ne_eqb _ _ n), (rw (eq-eqb _ _ l, ne_eqb _ _ n), rw (ne_eqb _ _ n) d))

    module _ (s : length room ≡ row_size) where
      pub table_row_none : (n : ℕ) (z : List ℕ) → row_of_slot_for t prn is slot ≡ (n, none) → z ≡ counted y n → GivesRow n room z
      unfolding table_row_answer table_row_room table_row_tally
      table_row_none n z e d = (rw (eq-eqb _ _ l, eq-eqb _ _ s, e), (rw (eq-eqb _ _ l, eq-eqb _ _ s, e), rw (eq-eqb _ _ s, e) d))

      pub table_row_found : (r : Row) (u : List ℕ) → row_of_slot_for t prn is slot ≡ (0, some r) → u ≡ store_at room 0 (row_bytes r) → GivesRow 0 u y
      unfolding table_row_answer table_row_room table_row_tally
      table_row_found r u e b =
          (rw (eq-eqb _ _ l, eq-eqb _ _ s, e), (rw (eq-eqb _ _ l, eq-eqb _ _ s, e) (b ∙ row_whole room r s), rw (eq-eqb _ _ s, e) (sym (taken_still y))))

-- ---- sheets
module _ (t y : List ℕ) (prn : ℕ) (is room : List ℕ) where
  abbrev pub Writes : ℕ → List ℕ → List ℕ → Type 0
  Writes n r z = (n ≡ table_sheet_answer t y prn is room) × ((r ≡ table_sheet_room t y prn is room) × (z ≡ table_sheet_tally t y prn is room))

  pub table_sheet_tally_lem : length y ≢ tally_size → Writes 39 room y
  unfolding table_sheet_answer table_sheet_room table_sheet_tally
  table_sheet_tally_lem z = (rw (ne_eqb _ _ z), (rw (ne_eqb _ _ z), none_counted y (sheet_answer_for t prn is room).0 z))

  pub table_sheet_right : (said : ℕ × Option ℕ) (k n : ℕ) (r z : List ℕ) → length y ≡ tally_size → said ≡ sheet_answer_for t prn is room → k ≡ written_in said →
      n ≡ said.0 → r ≡ sheet_room_for t prn is room → z ≡ counted y n → Writes k r z
  unfolding table_sheet_answer table_sheet_room table_sheet_tally
  table_sheet_right said k n r z l s a e b d =
      (rw (eq-eqb _ _ l) (a ∙ ap written_in s), (rw (eq-eqb _ _ l) b, d ∙ ap (counted y) (e ∙ ap (λ (x : ℕ × Option ℕ). x.0) s)))

module _ (t y : List ℕ) (prn : ℕ) (is sheet : List ℕ) where
  abbrev pub Checks : ℕ → List ℕ → Type 0
  Checks n z = (n ≡ table_check_answer t y prn is sheet) × (z ≡ table_check_tally t y prn is sheet)

  pub table_check_tally_lem : length y ≢ tally_size → Checks 39 y
  unfolding table_check_answer table_check_tally
  table_check_tally_lem z = (rw (ne_eqb _ _ z), none_counted y (number_in (checked_for t prn is sheet)) z)

  pub table_check_right : (said : List ℕ) (k n : ℕ) (z : List ℕ) → length y ≡ tally_size → said ≡ checked_for t prn is sheet → k ≡ detail_in said → n ≡ number_in said →
      z ≡ counted y n → Checks k z
  unfolding table_check_answer table_check_tally
  table_check_right said k n z l s a e d = (rw (eq-eqb _ _ l) (a ∙ ap detail_in s), d ∙ ap (counted y) (e ∙ ap number_in s))

  -- an offset of 23 is near the limit, so that one number holds it
  pub check_for_near : (at : ℕ) → 23 ∷ at ∷ [] ≡ checked_for t prn is sheet → at ≤ 8 + 24 * most_sheet_rows + 3
  unfolding checked_for
  check_for_near at e = go (eqb (asking_refusal t prn is) 0) e
    where
      go : (b : Bool) → 23 ∷ at ∷ [] ≡ pick b (checked_answer (ledger_for t prn) is sheet) (asking_refusal t prn is ∷ []) → at ≤ 8 + 24 * most_sheet_rows + 3
      go true q = check_near (ledger_for t prn) is sheet at q
      go false q = absurd (let z = ap (λ (x : List ℕ). length x) q in omega arith)
