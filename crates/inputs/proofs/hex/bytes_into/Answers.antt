use borrow.Author.Rules.{rules}
use native.Mathlib.Omega.{arith}
use mathlib.Core.Path.{refl}
use Rattle.bits.proofs.TableLaws.{fill_start, fill_step}
use Rattle.inputs.proofs.hex.bytes_into.Goals as goal

pub loop-i-init : goal.loop-i-init
loop-i-init c = (search rules, search rules, refl, fill_start _ _)

pub loop-i-preserved : goal.loop-i-preserved
loop-i-preserved c =
    (search rules, search rules, search rules, fill_step _ c.loop-i.i _ _ _ 0 (omega arith) c.loop-i.invariant.3 c.byte_of.ensures)
