use borrow.Author.Tests.{lt-leb, le-leb}
use borrow.Author.Rules.{rules}
use Rattle.sheet_form.specs.Reading.{header_ok}
use Rattle.sheet_reading.proofs.header_ok.Goals as goal

pub returns-then-s-lt8 : goal.returns-then-s-lt8
unfolding header_ok
returns-then-s-lt8 c = rw (lt-leb _ _ c.if-s-lt8.true)

pub returns : goal.returns
unfolding header_ok
returns c = rw (le-leb _ _ c.if-s-lt8.false, c.two_in.ensures, c.is_prn.ensures, c.is_opened.ensures)
