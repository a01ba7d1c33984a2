use native.Mathlib.Omega.{arith}
use mathlib.Core.Path.{refl, sym, ◌∙◌}
use Rattle.d1_subframes.specs.Subframe.{subframe_of}
use Rattle.d1_subframes.proofs.LoopLaws.{sent_step, sent_end}
use Rattle.d1_subframes.proofs.subframe_of.Goals as goal

pub loop-i-init : goal.loop-i-init
unfolding subframe_of
loop-i-init c = (refl, refl)

pub loop-i-preserved : goal.loop-i-preserved
loop-i-preserved c =
    let l = c.loop-i in (
      c.put.auto.room ∙ l.invariant.0,
      rw (c.put.ensures, c.sent_at-w.ensures) (sym (sent_step _ l.out l.i (omega arith)) ∙ l.invariant.1),
    )

pub returns : goal.returns
returns c = let l = c.loop-i in sym (sent_end _ _ l.i (omega arith)) ∙ l.invariant.1
