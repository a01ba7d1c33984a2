use borrow.Author.Rules.{rules}
use Rattle.sheet_form.specs.Reading.{is_given}
use Rattle.sheet_reading.proofs.is_given.Goals as goal

pub returns : goal.returns
unfolding is_given
returns c = rw c.absolute_of-m.ensures
