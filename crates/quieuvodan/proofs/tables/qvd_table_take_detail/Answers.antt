use borrow.Author.Rules.{rules}
use Rattle.answers.specs.Detail.{detail_in}
use Rattle.table_calls.proofs.TableLaws.{table_take_tally_lem, table_take_right}
use Rattle.quieuvodan.proofs.tables.qvd_table_take_detail.Goals as goal

pub returns-then-tally-ne-TALLY_SIZE : goal.returns-then-tally-ne-TALLY_SIZE
returns-then-tally-ne-TALLY_SIZE c =
    let a = c.args in
    let p = table_take_tally_lem detail_in a.table.now a.tally.now a.frame.now c.if-tally-ne-TALLY_SIZE.true in
    record { answer = p.0; bytes = p.1.0; tally = p.1.1 }

pub returns : goal.returns
returns c =
    let a = c.args in
    let o = c.take-v.ensures in
    let p = table_take_right detail_in a.table.now a.tally.now a.frame.now _ _ _ _ _ c.if-tally-ne-TALLY_SIZE.false o.verdict c.detail.ensures c.number_of.ensures o.bytes c.count.ensures in
    record { answer = p.0; bytes = p.1.0; tally = p.1.1 }
