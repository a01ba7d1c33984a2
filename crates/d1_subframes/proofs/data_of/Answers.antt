use native.Mathlib.Omega.{arith}
use mathlib.Core.Path.{refl, sym, ◌∙◌}
use Rattle.d1_subframes.specs.Subframe.{data_of}
use Rattle.d1_subframes.proofs.LoopLaws.{info_step, info_end}
use Rattle.d1_subframes.proofs.data_of.Goals as goal

pub loop-i-init : goal.loop-i-init
unfolding data_of
loop-i-init c = (refl, refl)

pub loop-i-preserved : goal.loop-i-preserved
loop-i-preserved c =
    let l = c.loop-i in (
      c.put.auto.room ∙ l.invariant.0,
      rw (c.put.ensures, c.width_of.ensures, c.offset_of.ensures, c.info_at-v.ensures)
          (sym (info_step _ l.out l.i (omega arith)) ∙ l.invariant.1),
    )

pub returns : goal.returns
returns c = let l = c.loop-i in sym (info_end _ _ l.i (omega arith)) ∙ l.invariant.1
