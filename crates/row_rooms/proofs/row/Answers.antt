use borrow.Author.Rules.{rules}
use mathlib.Core.Path.{sym, ap, ◌∙◌}
use Rattle.row.specs.Row.{row_says}
use Rattle.row_calls.proofs.RowsLaws.{row_ledger, row_size_lem, row_found, row_none}
use Rattle.row_rooms.proofs.row.Goals as goal

pub returns-then-ledger-ne-LEDGER_SIZE : goal.returns-then-ledger-ne-LEDGER_SIZE
returns-then-ledger-ne-LEDGER_SIZE c =
    let a = c.args in
    let p = row_ledger a.ledger.now a.issues.now a.slot a.row.now c.if-ledger-ne-LEDGER_SIZE.true in
    record { answer = p.0; bytes = p.1 }

pub returns-then-row-ne-ROW_SIZE : goal.returns-then-row-ne-ROW_SIZE
returns-then-row-ne-ROW_SIZE c =
    let a = c.args in
    let p = row_size_lem a.ledger.now a.issues.now a.slot a.row.now c.if-ledger-ne-LEDGER_SIZE.false c.if-row-ne-ROW_SIZE.true in
    record { answer = p.0; bytes = p.1 }

pub returns-in-Ok : goal.returns-in-Ok
returns-in-Ok c =
    let a = c.args in
    let p = row_found a.ledger.now a.issues.now a.slot a.row.now _ _ c.if-ledger-ne-LEDGER_SIZE.false c.if-row-ne-ROW_SIZE.false (sym c.row_of_slot-a.ensures ∙ ap row_says c.in-Ok.is) c.put_row.ensures in
    record { answer = p.0; bytes = p.1 }

pub returns-in-Err : goal.returns-in-Err
returns-in-Err c =
    let a = c.args in
    let p = row_none a.ledger.now a.issues.now a.slot a.row.now _ c.if-ledger-ne-LEDGER_SIZE.false c.if-row-ne-ROW_SIZE.false (sym c.row_of_slot-a.ensures ∙ ap row_says c.in-Err.is) in
    record { answer = p.0; bytes = p.1 }
