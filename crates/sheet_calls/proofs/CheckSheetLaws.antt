-- Laws of a sheet's check at the boundary: each answer by its case, and an offset of 23 near the limit, so that one number holds it.
use mathlib.Core.Path.{◌≡◌, refl, sym, ap, ◌∙◌}
use mathlib.Core.Logic.{◌≢◌}
use Prim.Native.Nat.{ℕ, ◌+◌, ◌*◌, ◌≤◌}
use mathlib.Core.Bool.{Bool, true, false}
use mathlib.Core.List.{List, [], ◌∷◌}
use mathlib.Core.Option.{Option, none, some}
use lib.Dec.{eqb}
use lib.ListN.{length, get_or}
use native.Mathlib.Omega.{arith}
use borrow.Author.Tests.{eq-eqb, ne_eqb}
use Rattle.bits.specs.Pick.{pick}
use Rattle.bits.specs.Some.{first}
use Rattle.held_mask.specs.Size.{size}
use Rattle.held_mask.specs.Mask.{mask_at}
use Rattle.broadcast.specs.Issues.{issues_refusal}
use Rattle.row.specs.declared.Row.{Row}
use Rattle.list.specs.Rows.{row_in}
use Rattle.sheet_form.specs.Reading.{wrong_at, header_said, rows_said}
use Rattle.sheet_writing.specs.Writing.{most_sheet_rows}
use Rattle.sheet_checking.specs.Checking.{checked_says, names, is_unknown, differs, row_refusal, row_refusal_after, offence_from, offence, rows_say, is_other, sheet_say, checked_answer}
use Rattle.std.specs.Prelude.{Err}
use Rattle.sheet_checking.specs.declared.Fault.TheVariants.{Wrong}
use Rattle.answers.specs.Detail.{detail_in}
use Rattle.sheet_calls.specs.Sheet.{check_sheet_answer}
use Rattle.sheet_calls.proofs.SheetLaws.{wrong_near}

-- ---- 23 is said of the sheet's form alone: no row is refused by it
row_other : (r : Row) (o : Option Row) (again : Bool) → row_refusal r o again ≢ 23
unfolding row_refusal
row_other r o again = go (is_unknown o) (differs r o) again
  where
    go : (a b c : Bool) → first ((24, a) ∷ (25, b) ∷ (26, c) ∷ []) ≢ 23
    go true b c = λ e. omega arith
    go false true c = λ e. omega arith
    go false false true = λ e. omega arith
    go false false false = λ e. omega arith

offence_other : (s is : List ℕ) (earlier : List Row) (k : ℕ) (rs : List Row) (o : ℕ × ℕ) → offence_from s is earlier k rs ≡ some o → o.0 ≢ 23
unfolding offence_from
offence_other s is earlier k [] o e = absurd (let z : ◌≡◌ {A = ℕ} 0 1 = cc in omega arith)
offence_other s is earlier k (r ∷ rs) o e = go (eqb (row_refusal_after s is earlier r) 0) e (offence_other s is (r ∷ earlier) (k + 1) rs o)
  where
    go : (b : Bool) → pick b (offence_from s is (r ∷ earlier) (k + 1) rs) (some (row_refusal_after s is earlier r, k)) ≡ some o →
        (offence_from s is (r ∷ earlier) (k + 1) rs ≡ some o → o.0 ≢ 23) → o.0 ≢ 23
    go true q ih = ih q
    go false q ih = λ z. row_other r (row_in s is r.slot.0) (names earlier r.slot.0) (let p : row_refusal_after s is earlier r ≡ o.0 = cc in p ∙ z)

-- what is said of the rows does not begin with 23
rows_other : (s is : List ℕ) (rs : List Row) (o : Option (ℕ × ℕ)) → ((p : ℕ × ℕ) → o ≡ some p → p.0 ≢ 23) → get_or (rows_say s is rs o) 0 0 ≢ 23
rows_other s is rs (some p) h = h p refl
rows_other s is rs none h = λ e. omega arith

-- ---- the check by its cases
module _ (s is t : List ℕ) where
  -- 23 beside an offset is what the sheet's form is refused with
  says_form : (at : ℕ) → checked_says (Err (Wrong at)) ≡ checked_answer s is t → wrong_at most_sheet_rows false t ≡ some at
  unfolding checked_answer
  says_form at e = go (eqb (issues_refusal is) 0) (mask_at s).has (wrong_at most_sheet_rows false t) e
    where
      other : (b : Bool) → 23 ∷ at ∷ [] ≢ pick b (27 ∷ []) (rows_say s is (rows_said t) (offence s is (rows_said t)))
      other true = λ q. let z = ap (λ (x : List ℕ). length x) q in omega arith
      other false = λ q.
          rows_other s is (rows_said t) (offence s is (rows_said t)) (offence_other s is [] 1 (rows_said t)) (sym (ap (λ (x : List ℕ). get_or x 0 0) q))

      go : (b m : Bool) (o : Option ℕ) → 23 ∷ at ∷ [] ≡ pick b (pick m (sheet_say s is t o) (20 ∷ [])) (issues_refusal is ∷ []) → o ≡ some at
      go true true (some x) q = ap some (sym (ap (λ (x : List ℕ). get_or x 1 0) q))
      go true true none q = absurd (other (is_other s (header_said t)) q)
      go true false o q = absurd (let z = ap (λ (x : List ℕ). length x) q in omega arith)
      go false m o q = absurd (let z = ap (λ (x : List ℕ). length x) q in omega arith)

  pub check_near : (at : ℕ) → checked_says (Err (Wrong at)) ≡ checked_answer s is t → at ≤ 8 + 24 * most_sheet_rows + 3
  check_near at e = wrong_near most_sheet_rows false t at (says_form at e)

  pub check_sheet_size : length s ≢ size → 39 ≡ check_sheet_answer s is t
  unfolding check_sheet_answer
  check_sheet_size n = rw (ne_eqb (length s) size n)

  -- the number of what is said, where that is what the check says
  pub check_sheet_right : (n : ℕ) (said : List ℕ) → length s ≡ size → said ≡ checked_answer s is t → n ≡ detail_in said → n ≡ check_sheet_answer s is t
  unfolding check_sheet_answer
  check_sheet_right n said l e d = rw (eq-eqb (length s) size l) (d ∙ ap detail_in e)
