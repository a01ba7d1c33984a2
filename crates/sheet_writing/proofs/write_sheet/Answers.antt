use mathlib.Core.Path.{ap, ◌∙◌}
use Rattle.verdict.proofs.NumberLaws.{handed_on}
use Rattle.list.proofs.AnswerLaws.{count_refused, count_rows}
use Rattle.sheet_writing.specs.Writing.{sheet_says}
use Rattle.sheet_writing.proofs.AnswerLaws.{right_issues}
use Rattle.sheet_writing.proofs.write_sheet.Goals as goal

pub returns-in_err-n : goal.returns-in_err-n
returns-in_err-n c =
    let a = c.args in
    let e = count_refused _ _ _ c.in_err-n.ensures in
    let p = right_issues a.ledger.now a.issues.now a.room.now _ e.0 (λ z. e.1 (e.0 ∙ z)) in
    record { answer = ap sheet_says (handed_on _ _ c.from_residual.ensures) ∙ p.0; bytes = p.1 }

pub write_list-requires : goal.write_list-requires
write_list-requires c = count_rows _ _ _ c.in_ok-n.ensures
