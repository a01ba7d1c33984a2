use native.Mathlib.Omega.{arith}
use Rattle.canonical_biases.proofs.CountLaws.{count_none, count_step}
use Rattle.bias_writing.proofs.StepLaws.{sats_none, sats_step}
use Rattle.bias_writing.proofs.put_sats.Goals as goal

pub loop-i-init : goal.loop-i-init
loop-i-init c = (omega arith, count_none _, sats_none _ _ _ _)

pub loop-i-preserved : goal.loop-i-preserved
loop-i-preserved c =
    let r = c.nth-r in
    let l = c.loop-i in (
      omega arith,
      rw (r.ensures, l.invariant.1) (count_step _ l.i),
      rw (sats_step, ← l.invariant.2, ← l.invariant.1, ← r.ensures) c.put_sat.ensures,
    )
