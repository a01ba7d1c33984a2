use borrow.Author.Rules.{rules}
use Rattle.sheet_reading.proofs.header_said.Goals as goal

pub returns : goal.returns
returns c = rw (c.two-rows.ensures, c.byte-iodp.ensures, c.byte-ssr.ensures, c.byte-prn.ensures)
