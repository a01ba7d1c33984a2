use borrow.Author.Tests.{eq-eqb, ne_eqb}
use Rattle.canonical.specs.Canon.{canon_clocks}
use Rattle.canonical.proofs.canon_clocks.Goals as goal

pub returns-then-l-eq0 : goal.returns-then-l-eq0
unfolding canon_clocks
returns-then-l-eq0 c = rw (eq-eqb _ _ c.if-l-eq0.true) c.no_clocks.ensures

pub returns : goal.returns
unfolding canon_clocks
returns c = rw (ne_eqb _ _ c.if-l-eq0.false, c.kept_if.ensures, c.kept_if-2.ensures, c.canon_clock_rows-clocks.ensures)
