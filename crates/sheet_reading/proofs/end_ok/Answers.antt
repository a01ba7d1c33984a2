use borrow.Author.Tests.{lt-leb, le-leb}
use borrow.Author.Rules.{rules}
use Rattle.sheet_reading.proofs.end_ok.Goals as goal

pub returns-then-s-a : goal.returns-then-s-a
returns-then-s-a c = rw (lt-leb _ _ c.if-s-a.true)

pub returns : goal.returns
returns c = rw (le-leb _ _ c.if-s-a.false) c.is_opened.ensures
