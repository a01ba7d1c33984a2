use borrow.Author.Rules.{rules}
use Rattle.sheet_reader.proofs.rows_end.Goals as goal

pub returns : goal.returns
returns c = rw c.two-rows.ensures
