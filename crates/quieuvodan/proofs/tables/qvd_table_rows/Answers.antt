use borrow.Author.Rules.{rules}
use Prim.Native.Nat.{ℕ}
use mathlib.Core.Path.{sym, ap, ◌∙◌}
use lib.ListN.{length}
use mathlib.Core.List.{List}
use Rattle.verdict.proofs.NumberLaws.{none_said, one_said}
use Rattle.broadcast.proofs.IssueLaws.{issues_long}
use Rattle.table_form.specs.Table.{ledger_for}
use Rattle.row_calls.specs.Rows.{rows_filled}
use Rattle.row_calls.proofs.RowsLaws.{filled_all}
use Rattle.table_calls.proofs.TableLaws.{table_rows_tally_lem, table_rows_bad, table_rows_right, rows_sound}
use Rattle.quieuvodan.proofs.tables.qvd_table_rows.Goals as goal

pub returns-then-tally-ne-TALLY_SIZE : goal.returns-then-tally-ne-TALLY_SIZE
returns-then-tally-ne-TALLY_SIZE c =
    let a = c.args in
    let p = table_rows_tally_lem a.table.now a.tally.now a.prn a.issues.now a.rows.now c.if-tally-ne-TALLY_SIZE.true in
    record { answer = p.0; bytes = p.1.0; tally = p.1.1 }

pub returns-in-Err : goal.returns-in-Err
returns-in-Err c =
    let a = c.args in
    let k = one_said _ _ c.in-Err.ensures in
    let p = table_rows_bad a.table.now a.tally.now a.prn a.issues.now a.rows.now c.if-tally-ne-TALLY_SIZE.false _ _ k.0 (λ z. k.1 (sym k.0 ∙ z)) c.count.ensures in
    record { answer = p.0; bytes = p.1.0; tally = p.1.1 }

pub returns : goal.returns
returns c =
    let a = c.args in
    let e = none_said _ c.in_default.ensures in
    let s = rows_sound a.table.now a.prn a.issues.now (length a.rows.now) e in
    let p = table_rows_right a.table.now a.tally.now a.prn a.issues.now a.rows.now c.if-tally-ne-TALLY_SIZE.false _ e s.0 (c.fill_rows.ensures ∙ ap (λ (x : List ℕ). rows_filled x a.issues.now a.rows.now) c.ledger_for.ensures ∙ filled_all (ledger_for a.table.now a.prn) a.issues.now a.rows.now (issues_long _ s.1)) in
    record { answer = p.0; bytes = p.1.0; tally = p.1.1 }
