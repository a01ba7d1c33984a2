use borrow.Author.Rules.{rules}
use Rattle.sheet_checking.proofs.is_other.Goals as goal

pub returns : goal.returns
returns c = rw (c.mask_iodp.ensures, c.mask_ssr.ensures, c.byte.ensures)
