use mathlib.Core.Path.{sym}
use Rattle.bits.proofs.RowLaws.{rows_step, rows_none}
use Rattle.bias_writing.proofs.put_row.Goals as goal

pub loop-i-init : goal.loop-i-init
loop-i-init c = sym (rows_none _ _ _ _)

pub loop-i-preserved : goal.loop-i-preserved
loop-i-preserved c = rw (rows_step, ← c.loop-i.invariant, ← c.nth-b.ensures) c.put_bias.ensures
