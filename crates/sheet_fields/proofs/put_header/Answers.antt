use borrow.Author.Rules.{rules}
use Rattle.sheet_fields.proofs.put_header.Goals as goal

pub returns : goal.returns
returns c = rw (c.store.ensures, c.header_bytes.ensures)
