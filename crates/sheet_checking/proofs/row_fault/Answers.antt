use Prim.Native.Nat.{ℕ}
use mathlib.Core.Path.{sym, ap, ◌∙◌}
use Rattle.row.specs.Row as row
use Rattle.list.proofs.AnswerLaws.{found_some, refused_none}
use Rattle.sheet_checking.specs.Checking.{refused_row}
use Rattle.sheet_checking.proofs.CheckLaws.{unknown_slot, other_numbers, repeated, not_refused}
use Rattle.sheet_checking.proofs.row_fault.Goals as goal

pub returns-in_default : goal.returns-in_default
returns-in_default c =
    let e = refused_none _ _ (sym (rw c.issue_of-issue.ensures at c.slot_row.ensures) ∙ ap row.row_says c.in_default.is) in
    ap (λ (n : ℕ). refused_row n c.args.k) (unknown_slot _ _ _ e)

pub returns-then-not-same_numbers : goal.returns-then-not-same_numbers
returns-then-not-same_numbers c =
    let e = found_some _ _ (sym (rw c.issue_of-issue.ensures at c.slot_row.ensures) ∙ ap row.row_says c.in-Ok.is) in
    ap (λ (n : ℕ). refused_row n c.args.k) (other_numbers _ _ _ _ e (sym c.same_numbers.ensures ∙ c.if-not-same_numbers.true))

pub returns-then-again : goal.returns-then-again
returns-then-again c =
    let e = found_some _ _ (sym (rw c.issue_of-issue.ensures at c.slot_row.ensures) ∙ ap row.row_says c.in-Ok.is) in
    ap (λ (n : ℕ). refused_row n c.args.k) (repeated _ _ _ _ e (sym c.same_numbers.ensures ∙ c.if-not-same_numbers.false) c.if-again.true)

pub returns : goal.returns
returns c =
    let e = found_some _ _ (sym (rw c.issue_of-issue.ensures at c.slot_row.ensures) ∙ ap row.row_says c.in-Ok.is) in
    ap (λ (n : ℕ). refused_row n c.args.k) (not_refused _ _ _ _ e (sym c.same_numbers.ensures ∙ c.if-not-same_numbers.false) c.if-again.false)
