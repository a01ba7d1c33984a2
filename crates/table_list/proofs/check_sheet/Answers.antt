use borrow.Author.Rules.{rules}
use Prim.Native.Nat.{ℕ}
use mathlib.Core.Path.{ap, ◌∙◌}
use mathlib.Core.List.{List, [], ◌∷◌}
use Rattle.sheet_checking.specs.Checking.{checked_says, checked_answer}
use Rattle.verdict.proofs.NumberLaws.{handed_on}
use Rattle.table_list.specs.Questions.{checked_for}
use Rattle.table_list.proofs.AskLaws.{alone, answered}
use Rattle.table_list.proofs.check_sheet.Goals as goal

pub returns-in_err-asking_refusal : goal.returns-in_err-asking_refusal
unfolding checked_for
returns-in_err-asking_refusal c = ap checked_says (handed_on _ _ c.from_residual.ensures) ∙ alone (λ (n : ℕ). n ∷ []) _ _ _ c.in_err-asking_refusal.ensures

pub returns : goal.returns
unfolding checked_for
returns c =
    let a = c.args in
    answered _ _ _ c.in_ok-asking_refusal.ensures _
    (c.check_sheet.ensures ∙ ap (λ (s : List ℕ). checked_answer s a.issues.now a.sheet.now) c.ledger_for.ensures)
