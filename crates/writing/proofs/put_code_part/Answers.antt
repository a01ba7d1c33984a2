use borrow.Author.Rules.{rules}
use borrow.Author.Tests.{eq-eqb, ne_eqb}
use Rattle.writing.specs.Write.{code_put}
use Rattle.writing.proofs.put_code_part.Goals as goal

pub returns-then-kind-eq5 : goal.returns-then-kind-eq5
unfolding code_put
returns-then-kind-eq5 c = rw (eq-eqb _ _ c.if-kind-eq5.true) c.put_codes.ensures

pub returns-else-kind-eq5 : goal.returns-else-kind-eq5
unfolding code_put
returns-else-kind-eq5 c = rw (ne_eqb _ _ c.if-kind-eq5.false)
