use borrow.Author.Rules.{rules}
use Rattle.writing.specs.Write.{check_put}
use Rattle.writing.proofs.put_check.Goals as goal

pub returns : goal.returns
unfolding check_put
returns c = rw (← c.check-check.ensures) c.put.ensures
