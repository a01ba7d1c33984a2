use borrow.Author.Rules.{rules}
use borrow.Author.Tests.{eq-eqb, ne_eqb}
use Rattle.writing.proofs.end_for.Goals as goal

pub returns-then-c-eq3 : goal.returns-then-c-eq3
returns-then-c-eq3 c = rw (eq-eqb _ _ c.if-c-eq3.true) c.written_end.ensures

pub returns : goal.returns
returns c = rw (ne_eqb _ _ c.if-c-eq3.false, ← c.layout_of.ensures) c.end_of.ensures
