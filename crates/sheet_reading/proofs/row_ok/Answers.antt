use borrow.Author.Tests.{lt-leb, le-leb}
use borrow.Author.Rules.{rules}
use Rattle.sheet_form.specs.Reading.{row_ok}
use Rattle.sheet_reading.proofs.row_ok.Goals as goal

pub returns-then-s-a : goal.returns-then-s-a
unfolding row_ok
returns-then-s-a c = rw (lt-leb _ _ c.if-s-a.true)

pub returns : goal.returns
unfolding row_ok
returns c =
    rw (
      le-leb _ _ c.if-s-a.false,
      c.values_ok.ensures,
      c.two_in.ensures,
      c.slot_ok.ensures,
      c.is_opened.ensures,
    )
