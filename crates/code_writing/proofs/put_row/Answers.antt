use mathlib.Core.Path.{sym}
use Rattle.bits.specs.Bits.{puts_at}
use Rattle.bits.proofs.RowLaws.{rows_step, rows_none}
use Rattle.code_writing.proofs.put_row.Goals as goal

pub loop-i-init : goal.loop-i-init
loop-i-init c = sym (rows_none _ _ _ _)

pub loop-i-preserved : goal.loop-i-preserved
unfolding puts_at
loop-i-preserved c = rw (rows_step, ← c.loop-i.invariant) c.put.ensures
