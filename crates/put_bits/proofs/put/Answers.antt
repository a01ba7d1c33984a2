use native.Mathlib.Omega.{arith}
use mathlib.Core.Path.{◌≡◌, sym, ◌∙◌, refl}
use Rattle.bits.proofs.PutLaws.{put_step, put_none}
use Rattle.put_bits.proofs.put.Goals as goal

pub loop-k-init : goal.loop-k-init
loop-k-init c = refl

pub set_bit-requires : goal.set_bit-requires
set_bit-requires c = omega arith

pub returns : goal.returns
returns c =
    let i = c.loop-k in
    let e : i.k ≡ 0 = omega arith in
    sym (put_none _ _ _) ∙ rw e at i.invariant

pub loop-k-preserved : goal.loop-k-preserved
loop-k-preserved c =
    let i = c.loop-k in
    let a = c.args in
    rw c.set_bit.ensures (sym (put_step i.room a.at i.k i.x (omega arith)) ∙ i.invariant)
