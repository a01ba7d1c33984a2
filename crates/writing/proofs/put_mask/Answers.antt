use borrow.Author.Rules.{rules}
use Rattle.writing.specs.Write.{mask_put}
use Rattle.writing.proofs.put_mask.Goals as goal

pub returns-then-l : goal.returns-then-l
unfolding mask_put
returns-then-l c = rw (c.if-l.true, ← c.put_part_head.ensures) c.put_mask_bits.ensures

pub returns-else-l : goal.returns-else-l
unfolding mask_put
returns-else-l c = rw c.if-l.false
