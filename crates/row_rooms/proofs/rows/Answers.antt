use borrow.Author.Rules.{rules}
use mathlib.Core.Path.{sym, ap, ◌∙◌}
use Rattle.verdict.specs.Verdict.{refused_says}
use Rattle.verdict.proofs.NumberLaws.{none_said, one_said}
use Rattle.broadcast.proofs.IssueLaws.{issues_long}
use Rattle.row_calls.proofs.RowsLaws.{rows_ledger, rows_size_lem, rows_bad, rows_right, filled_all}
use Rattle.row_rooms.proofs.rows.Goals as goal

pub returns-then-ledger-ne-LEDGER_SIZE : goal.returns-then-ledger-ne-LEDGER_SIZE
returns-then-ledger-ne-LEDGER_SIZE c =
    let a = c.args in
    let p = rows_ledger a.ledger.now a.issues.now a.rows.now c.if-ledger-ne-LEDGER_SIZE.true in
    record { answer = p.0; bytes = p.1 }

pub returns-then-rows-ne-ROWS_SIZE : goal.returns-then-rows-ne-ROWS_SIZE
returns-then-rows-ne-ROWS_SIZE c =
    let a = c.args in
    let p = rows_size_lem a.ledger.now a.issues.now a.rows.now c.if-ledger-ne-LEDGER_SIZE.false c.if-rows-ne-ROWS_SIZE.true in
    record { answer = p.0; bytes = p.1 }

pub returns-in-Err : goal.returns-in-Err
returns-in-Err c =
    let a = c.args in
    let k = one_said _ _ (sym (ap refused_says c.in-Err.is) ∙ c.issues_refusal.ensures) in
    let p = rows_bad a.ledger.now a.issues.now a.rows.now _ c.if-ledger-ne-LEDGER_SIZE.false c.if-rows-ne-ROWS_SIZE.false k.0 (λ z. k.1 (sym k.0 ∙ z)) in
    record { answer = p.0; bytes = p.1 }

pub returns : goal.returns
returns c =
    let a = c.args in
    let e = none_said _ (sym (ap refused_says c.in_default.is) ∙ c.issues_refusal.ensures) in
    let p = rows_right a.ledger.now a.issues.now a.rows.now _ c.if-ledger-ne-LEDGER_SIZE.false c.if-rows-ne-ROWS_SIZE.false e (c.fill_rows.ensures ∙ filled_all a.ledger.now a.issues.now a.rows.now (issues_long _ e)) in
    record { answer = p.0; bytes = p.1 }
