use borrow.Author.Rules.{rules}
use Rattle.writing.specs.Write.{parts_put}
use Rattle.writing.proofs.put_parts.Goals as goal

pub returns : goal.returns
unfolding parts_put
returns c =
    rw (← c.put_head.ensures, ← c.put_mask.ensures, ← c.put_clocks.ensures, ← c.put_orbits.ensures, ← c.put_bias_part.ensures) c.put_code_part.ensures
