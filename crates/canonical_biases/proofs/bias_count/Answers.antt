use native.Mathlib.Omega.{arith}
use Rattle.canonical_biases.proofs.CountLaws.{count_none, count_step}
use Rattle.canonical_biases.proofs.bias_count.Goals as goal

pub loop-r-init : goal.loop-r-init
loop-r-init c = (omega arith, count_none _)

pub loop-r-preserved : goal.loop-r-preserved
loop-r-preserved c =
    let l = c.loop-r in
    (omega arith, rw l.invariant.1 (count_step _ _))
