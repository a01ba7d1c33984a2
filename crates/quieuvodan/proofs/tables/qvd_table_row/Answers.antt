use borrow.Author.Rules.{rules}
use mathlib.Core.Path.{sym, ap, ◌∙◌}
use Rattle.row.specs.Row.{row_says}
use Rattle.table_calls.proofs.TableLaws.{table_row_tally_lem, table_row_room_lem, table_row_none, table_row_found}
use Rattle.quieuvodan.proofs.tables.qvd_table_row.Goals as goal

pub returns-then-tally-ne-TALLY_SIZE : goal.returns-then-tally-ne-TALLY_SIZE
returns-then-tally-ne-TALLY_SIZE c =
    let a = c.args in
    let p = table_row_tally_lem a.table.now a.tally.now a.prn a.issues.now a.slot a.row.now c.if-tally-ne-TALLY_SIZE.true in
    record { answer = p.0; bytes = p.1.0; tally = p.1.1 }

pub returns-then-row-ne-ROW_SIZE : goal.returns-then-row-ne-ROW_SIZE
returns-then-row-ne-ROW_SIZE c =
    let a = c.args in
    let p = table_row_room_lem a.table.now a.tally.now a.prn a.issues.now a.slot a.row.now c.if-tally-ne-TALLY_SIZE.false _ c.if-row-ne-ROW_SIZE.true c.count.ensures in
    record { answer = p.0; bytes = p.1.0; tally = p.1.1 }

pub returns-in-Ok : goal.returns-in-Ok
returns-in-Ok c =
    let a = c.args in
    let p = table_row_found a.table.now a.tally.now a.prn a.issues.now a.slot a.row.now c.if-tally-ne-TALLY_SIZE.false c.if-row-ne-ROW_SIZE.false _ _ (sym c.in-Ok.ensures) c.put_row.ensures in
    record { answer = p.0; bytes = p.1.0; tally = p.1.1 }

pub returns-in-Err : goal.returns-in-Err
returns-in-Err c =
    let a = c.args in
    let p = table_row_none a.table.now a.tally.now a.prn a.issues.now a.slot a.row.now c.if-tally-ne-TALLY_SIZE.false c.if-row-ne-ROW_SIZE.false _ _ (sym c.in-Err.ensures) c.count-in-Err.ensures in
    record { answer = p.0; bytes = p.1.0; tally = p.1.1 }
