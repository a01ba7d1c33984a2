use borrow.Author.Rules.{rules}
use Rattle.sheet_reading.proofs.is_opened.Goals as goal

pub returns : goal.returns
returns c = rw c.two_in.ensures
