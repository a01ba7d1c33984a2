use borrow.Author.Rules.{rules}
use Prim.Native.Nat.{ℕ}
use mathlib.Core.Path.{ap, ◌∙◌}
use mathlib.Core.Option.{Option, none}
use mathlib.Core.List.{List}
use Rattle.row.specs.declared.Row.{Row}
use Rattle.list.specs.Rows.{row_of_slot_answer}
use Rattle.row.specs.Row.{row_says}
use Rattle.verdict.proofs.NumberLaws.{handed_on}
use Rattle.table_list.specs.Questions.{row_of_slot_for}
use Rattle.table_list.proofs.AskLaws.{alone, answered}
use Rattle.table_list.proofs.row_of_slot.Goals as goal

pub returns-in_err-asking_slot_refusal : goal.returns-in_err-asking_slot_refusal
unfolding row_of_slot_for
returns-in_err-asking_slot_refusal c =
    ap row_says (handed_on _ _ c.from_residual.ensures) ∙ alone {A = ℕ × Option Row} (λ (n : ℕ). (n, none)) _ _ _ c.in_err-asking_slot_refusal.ensures

pub returns : goal.returns
unfolding row_of_slot_for
returns c =
    let a = c.args in
    answered _ _ _ c.in_ok-asking_slot_refusal.ensures _
    (c.row_of_slot.ensures ∙ ap (λ (s : List ℕ). row_of_slot_answer s a.issues.now a.slot) c.ledger_for.ensures)
