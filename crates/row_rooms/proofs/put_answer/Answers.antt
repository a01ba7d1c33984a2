use borrow.Author.Rules.{rules}
use Rattle.row_calls.proofs.RowsLaws.{answer_none, answer_some}
use Rattle.row_rooms.proofs.put_answer.Goals as goal

pub returns-in_default : goal.returns-in_default
returns-in_default c =
    let a = c.args in
    let p = answer_none a.rows.now a.n a.a _ c.in_default.is in
    record { count = p.0; bytes = p.1 }

pub returns : goal.returns
returns c =
    let a = c.args in
    let p = answer_some a.rows.now a.n a.a _ _ c.in-Ok.is c.put_row.ensures in
    record { count = p.0; bytes = p.1 }
