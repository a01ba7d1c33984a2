use native.Mathlib.Omega.{arith}
use Rattle.bits.proofs.TableLaws.{fill_start, fill_step, fill_done}
use Rattle.making.proofs.put_bytes.Goals as goal

pub loop-j-init : goal.loop-j-init
loop-j-init c = fill_start _ _

pub loop-j-preserved : goal.loop-j-preserved
loop-j-preserved c =
    let l = c.loop-j in
    fill_step _ l.j _ _ _ 0 (omega (arith, c.requires)) l.invariant c.byte_of.ensures

pub returns : goal.returns
returns c =
    let l = c.loop-j in
    fill_done _ l.j 125 _ _ (omega arith) c.requires l.invariant
