use borrow.Author.Rules.{rules}
use Rattle.sheet_writing.proofs.header_of.Goals as goal

pub returns : goal.returns
returns c = rw (c.byte-prn.ensures, c.mask_ssr-ssr.ensures, c.mask_iodp-iodp.ensures)
