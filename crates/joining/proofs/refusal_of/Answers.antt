use borrow.Author.Tests.{eq-eqb, ne_eqb, lt-ltb, le-ltb}
use Rattle.broadcast.specs.Issues.{issues_refusal}
use Rattle.joining.specs.Join.{join_refusal}
use Rattle.joining.proofs.refusal_of.Goals as goal

pub returns-then-issues-ne255 : goal.returns-then-issues-ne255
unfolding join_refusal
returns-then-issues-ne255 c = rw (ne_eqb _ _ c.if-issues-ne255.true)

pub returns-then-prn : goal.returns-then-prn
unfolding join_refusal
returns-then-prn c = rw (eq-eqb _ _ c.if-issues-ne255.false, c.if-prn.true)

pub returns-then-iodc-gt1023 : goal.returns-then-iodc-gt1023
unfolding join_refusal
returns-then-iodc-gt1023 c = rw (eq-eqb _ _ c.if-issues-ne255.false, c.if-prn.false, lt-ltb _ _ c.if-iodc-gt1023.true)

pub returns : goal.returns
unfolding join_refusal issues_refusal
returns c =
    rw (eq-eqb _ _ c.if-issues-ne255.false, c.if-prn.false, le-ltb _ _ c.if-iodc-gt1023.false)
    (rw (eq-eqb _ _ c.if-issues-ne255.false) at c.issues_refusal.ensures)
