use borrow.Author.Rules.{rules}
use borrow.Author.Tests.{eq-eqb, ne_eqb}
use Rattle.writing.specs.Write.{clocks_put}
use Rattle.writing.proofs.put_clocks.Goals as goal

pub returns-then-n-ne0 : goal.returns-then-n-ne0
unfolding clocks_put
returns-then-n-ne0 c = rw (ne_eqb _ _ c.if-n-ne0.true, ← c.put_part_head.ensures) c.put_clock_rows.ensures

pub returns-else-n-ne0 : goal.returns-else-n-ne0
unfolding clocks_put
returns-else-n-ne0 c = rw (eq-eqb _ _ c.if-n-ne0.false)
