use borrow.Author.Rules.{rules}
use Rattle.from_flat.specs.Read.{flat_mask_in}
use Rattle.from_flat.proofs.read_mask.Goals as goal

pub returns : goal.returns
unfolding flat_mask_in
returns c = rw (c.read_mask_bytes-bytes.ensures, c.byte-iodp.ensures, c.byte-ssr.ensures, c.four-epoch.ensures)
