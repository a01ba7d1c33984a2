use borrow.Author.Rules.{rules}
use Rattle.sheet_checking.proofs.same_ura.Goals as goal

pub returns : goal.returns
returns c = rw (c.ura_quarters-2.ensures, c.ura_quarters.ensures, c.ura_kind-2.ensures, c.ura_kind.ensures)
