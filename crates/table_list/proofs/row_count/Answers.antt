use borrow.Author.Rules.{rules}
use Prim.Native.Nat.{ℕ}
use mathlib.Core.Path.{ap, ◌∙◌}
use mathlib.Core.Option.{Option, none}
use mathlib.Core.List.{List}
use Rattle.list.specs.Rows.{count_says, count_answer}
use Rattle.verdict.proofs.NumberLaws.{handed_on}
use Rattle.table_list.specs.Questions.{count_for}
use Rattle.table_list.proofs.AskLaws.{alone, answered}
use Rattle.table_list.proofs.row_count.Goals as goal

pub returns-in_err-asking_refusal : goal.returns-in_err-asking_refusal
unfolding count_for
returns-in_err-asking_refusal c =
    ap count_says (handed_on _ _ c.from_residual.ensures) ∙ alone {A = ℕ × Option ℕ} (λ (n : ℕ). (n, none)) _ _ _ c.in_err-asking_refusal.ensures

pub returns : goal.returns
unfolding count_for
returns c =
    answered _ _ _ c.in_ok-asking_refusal.ensures _
    (c.row_count.ensures ∙ ap (λ (s : List ℕ). count_answer s c.args.issues.now) c.ledger_for.ensures)
