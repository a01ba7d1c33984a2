use Rattle.std.proofs.Common.{◌+◌, refl, arith}
use Rattle.bits.specs.Table.{table}
use Rattle.bits.proofs.TableLaws.{fill_step, fill_done}
use Rattle.parity_making.specs.Walk.{carries, walked}
use Rattle.parity_making.proofs.WalkLaws.{walk_step, filled}
use Rattle.parity_making.proofs.walk.Goals as goal

pub loop-k-init : goal.loop-k-init
unfolding table walked
loop-k-init c = refl

pub loop-k-preserved : goal.loop-k-preserved
loop-k-preserved c =
    let l = c.loop-k in
    fill_step (walked carries c.args.d.now c.args.x) (l.k + 1) _ _ _ 0 (omega arith) l.invariant
    (rw (c.times.ensures, c.carry.ensures, filled _ _ l.k (l.k + 1) _ (omega arith) l.invariant) (walk_step _ _ _ l.k))

pub returns : goal.returns
returns c =
    let l = c.loop-k in
    fill_done _ (l.k + 1) 82 _ _ (omega arith) refl l.invariant
