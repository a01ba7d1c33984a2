-- What a check answers, case by case.
use Prim.Native.Nat.{ℕ, ◌+◌, ◌-◌}
use mathlib.Core.Path.{◌≡◌, refl, sym, ap, ◌∙◌}
use mathlib.Core.Logic.{◌≢◌}
use mathlib.Core.Bool.{true, false}
use mathlib.Core.List.{List, [], ◌∷◌}
use mathlib.Core.Option.{none, some}
use native.Mathlib.Omega.{arith}
use borrow.Author.Tests.{eq-eqb, ne_eqb}
use lib.Dec.{eqb}
use lib.ListN.{length}
use Rattle.bits.specs.Pick.{pick}
use Rattle.held_mask.specs.Mask.{mask_at}
use Rattle.broadcast.specs.Issues.{issues_refusal}
use Rattle.list.specs.Rows.{list_in}
use Rattle.lent.specs.Digits.{two_at}
use Rattle.sheet_form.specs.Reading.{wrong_at, header_said, rows_said_from, rows_said}
use Rattle.sheet_form.specs.declared.Header.{Header}
use Rattle.sheet_writing.specs.Writing.{most_sheet_rows}
use Rattle.sheet_checking.specs.Checking.{checked_says, offence, left_out, rows_say, is_other, sheet_say, checked_answer}
use Rattle.std.specs.Prelude.{Result, Ok, Err}
use Rattle.sheet_checking.specs.declared.Fault.{Fault}
use Rattle.sheet_checking.specs.declared.Fault.TheVariants as fault
use Rattle.sheet_checking.proofs.CountLaws.{length_said, accepted_count}

-- a refusal by a number
abbrev pub refused : ℕ → Result ℕ Fault
refused n = Err (fault.Number n)

-- ---- the answers, in their order
module _ (s is t : List ℕ) where
  -- 1 and 17
  pub says_issues : (why : ℕ) → issues_refusal is ≡ why → issues_refusal is ≢ 0 → checked_says (refused why) ≡ checked_answer s is t
  unfolding checked_answer
  says_issues why e n = rw (ne_eqb (issues_refusal is) 0 n, e)

  module _ (right : issues_refusal is ≡ 0) where
    -- 20
    pub says_no_mask : (mask_at s).has ≡ false → checked_says (refused 20) ≡ checked_answer s is t
    unfolding checked_answer
    says_no_mask m = rw (eq-eqb (issues_refusal is) 0 right, m)

    module _ (has : (mask_at s).has ≡ true) where
      -- else what is said of the sheet
      pub says_sheet : sheet_say s is t (wrong_at most_sheet_rows false t) ≡ checked_answer s is t
      unfolding checked_answer
      says_sheet = rw (eq-eqb (issues_refusal is) 0 right, has)

      -- 23
      pub says_wrong : (at : ℕ) → wrong_at most_sheet_rows false t ≡ some at → checked_says (Err (fault.Wrong at)) ≡ checked_answer s is t
      says_wrong at w = sym (ap (sheet_say s is t) w) ∙ says_sheet

      module _ (h : Header) (read : wrong_at most_sheet_rows false t ≡ none) (said : h ≡ header_said t) where
        -- 27
        pub says_other : is_other s h ≡ true → checked_says (refused 27) ≡ checked_answer s is t
        says_other o = sym (ap (sheet_say s is t) read ∙ rw (rw said at o)) ∙ says_sheet

        -- else what is said of the rows
        pub says_rows : is_other s h ≡ false → rows_say s is (rows_said t) (offence s is (rows_said t)) ≡ checked_answer s is t
        says_rows o = sym (ap (sheet_say s is t) read ∙ rw (rw said at o)) ∙ says_sheet

-- ---- the rows of a sheet whose header says how many
module _ (s is t : List ℕ) (n : ℕ) (said : n ≡ two_at t 6) where
  -- a row offends
  pub rows_hit : (why k : ℕ) → offence s is (rows_said_from t n 8) ≡ some (why, k) →
      rows_say s is (rows_said t) (offence s is (rows_said t)) ≡ why ∷ k ∷ []
  rows_hit why k e = ap (rows_say s is (rows_said t)) (rw said at e)

  -- where none offends, our list has as many rows and those left out
  pub rows_counted : offence s is (rows_said_from t n 8) ≡ none → length (list_in s is) ≡ n + left_out s is (rows_said t)
  rows_counted e = accepted_count s is (rows_said t) (rw said at e) ∙ ap (λ (m : ℕ). m + left_out s is (rows_said t)) (length_said t (two_at t 6) 8 ∙ sym said)

  -- none offends
  pub rows_end : (ours : ℕ) → ours ≡ length (list_in s is) → offence s is (rows_said_from t n 8) ≡ none →
      rows_say s is (rows_said t) (offence s is (rows_said t)) ≡ checked_says (Ok (ours - n))
  rows_end ours q e =
      ap (rows_say s is (rows_said t)) (rw said at e)
      ∙ ap (λ (m : ℕ). checked_says (Ok m)) (let c = rows_counted e in omega arith)

-- the answer that says this
back : List ℕ → Result ℕ Fault
back [] = refused 0
back (n ∷ []) = refused n
back (n ∷ v ∷ rest) =
    pick (eqb n 0) (Ok v)
    (pick (eqb n 23) (Err (fault.Wrong v)) (pick (eqb n 24) (Err (fault.Unknown v)) (pick (eqb n 25) (Err (fault.Other v)) (Err (fault.Repeated v)))))

-- and it does say it
back_says : (a : Result ℕ Fault) → back (checked_says a) ≡ a
unfolding back
back_says (Ok n) = refl
back_says (Err (fault.Number n)) = refl
back_says (Err (fault.Wrong at)) = refl
back_says (Err (fault.Unknown k)) = refl
back_says (Err (fault.Other k)) = refl
back_says (Err (fault.Repeated k)) = refl

-- answers that say the same are the same: a promise of what is said admits a single answer
pub check_once : (a b : Result ℕ Fault) → checked_says a ≡ checked_says b → a ≡ b
check_once a b e = sym (back_says a) ∙ ap back e ∙ back_says b
