use Rattle.writing.proofs.clock_widths.Goals as goal

pub returns-then-slotted : goal.returns-then-slotted
returns-then-slotted c = rw c.if-slotted.true

pub returns-else-slotted : goal.returns-else-slotted
returns-else-slotted c = rw c.if-slotted.false
