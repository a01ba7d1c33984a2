use borrow.Author.Rules.{rules}
use Rattle.table_form.proofs.is_right.Goals as goal

pub returns : goal.returns
returns c = rw c.is_prn.ensures
