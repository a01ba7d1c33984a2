use borrow.Author.Rules.{rules}
use Rattle.bits.proofs.MadeLaws.{made_table}
use Rattle.contents.specs.Parts.{mask_bytes_at, mask_byte_at}
use Rattle.mask_reading.proofs.read_mask_bytes.Goals as goal

pub returns : goal.returns
unfolding mask_bytes_at
returns c = made_table (mask_byte_at c.args.s.now c.args.at) _ _ _ c.from_fn.ensures.items (λ j y q k. search rules)
