use mathlib.Core.Path.{sym}
use native.Mathlib.Nat.{one-mul}
use Rattle.bits.specs.Bits.{puts_at}
use Rattle.bits.proofs.RowLaws.{rows_step, rows_none}
use Rattle.writing.proofs.put_mask_bits.Goals as goal

pub loop-i-init : goal.loop-i-init
loop-i-init c = sym (rows_none _ _ _ _)

pub loop-i-preserved : goal.loop-i-preserved
unfolding puts_at
loop-i-preserved c =
    let l = c.loop-i in
    rw (rows_step, ← l.invariant, one-mul l.i, ← c.mask_bit.ensures) c.put.ensures
