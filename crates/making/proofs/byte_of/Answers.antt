use borrow.Author.Tests.{eq-eqb, ne_eqb}
use Rattle.making.specs.Units.{unit_byte, frame_byte}
use Rattle.making.proofs.byte_of.Goals as goal

pub returns-then-j-eq0 : goal.returns-then-j-eq0
unfolding frame_byte
returns-then-j-eq0 c = rw (eq-eqb _ _ c.if-j-eq0.true)

pub returns-then-j-eq1 : goal.returns-then-j-eq1
unfolding frame_byte
returns-then-j-eq1 c = rw (ne_eqb _ _ c.if-j-eq0.false, eq-eqb _ _ c.if-j-eq1.true)

pub returns : goal.returns
unfolding frame_byte unit_byte
returns c = rw (ne_eqb _ _ c.if-j-eq0.false, ne_eqb _ _ c.if-j-eq1.false, c.from-2.ensures, c.from.ensures)
