use borrow.Author.Rules.{rules}
use Rattle.sheet_reading.proofs.values_ok.Goals as goal

pub returns : goal.returns
returns c =
    rw (
      c.is_given-4.ensures,
      c.four_in-4.ensures,
      c.is_given-3.ensures,
      c.four_in-3.ensures,
      c.is_given-2.ensures,
      c.four_in-2.ensures,
      c.is_given.ensures,
      c.four_in.ensures,
    )
