use mathlib.Core.Path.{◌∙◌}
use Rattle.newest.proofs.RowLaws.{comes_none, comes_short, comes_row}
use Rattle.newest.proofs.Rows.replaces.Goals as goal

pub returns-then-slot-eq0 : goal.returns-then-slot-eq0
returns-then-slot-eq0 c = let a = c.args in comes_none a.t.now a.self a.slot a.new c.if-slot-eq0.true

pub returns-then-t-end : goal.returns-then-t-end
returns-then-t-end c =
    let a = c.args in
    comes_short a.t.now a.self a.slot a.new c.if-slot-eq0.false c.offset-at.result c.offset-at.ensures (rw c.from.ensures at c.if-t-end.true)

pub returns : goal.returns
returns c =
    let a = c.args in
    c.replaces_in.ensures
    ∙ rw c.from.ensures (comes_row a.t.now a.self a.slot a.new c.if-slot-eq0.false c.offset-at.result c.offset-at.ensures (rw c.from.ensures at c.if-t-end.false))
