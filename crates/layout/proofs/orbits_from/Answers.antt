use mathlib.Core.Path.{sym}
use Rattle.layout.proofs.LayoutLaws.{from_none}
use Rattle.layout.proofs.orbits_from.Goals as goal

-- the width of a clock record, and that of all of them
pub returns-then-n-eq0 : goal.returns-then-n-eq0
returns-then-n-eq0 c = sym (from_none c.args.l c.if-n-eq0.true)
