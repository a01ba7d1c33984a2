use Rattle.flat_forms.proofs.put_row.Goals as goal

pub returns : goal.returns
returns c = rw (c.store.ensures, c.row_bytes.ensures)
