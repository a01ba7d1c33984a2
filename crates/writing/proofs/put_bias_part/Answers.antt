use borrow.Author.Rules.{rules}
use borrow.Author.Tests.{eq-eqb, ne_eqb}
use Rattle.writing.specs.Write.{bias_put}
use Rattle.writing.proofs.put_bias_part.Goals as goal

pub returns-then-kind-eq3 : goal.returns-then-kind-eq3
unfolding bias_put
returns-then-kind-eq3 c = rw (eq-eqb _ _ c.if-kind-eq3.true) c.put_biases.ensures

pub returns-else-kind-eq3 : goal.returns-else-kind-eq3
unfolding bias_put
returns-else-kind-eq3 c = rw (ne_eqb _ _ c.if-kind-eq3.false)
