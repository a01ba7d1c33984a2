use Rattle.std.proofs.Common.{◌+◌, ◌*◌, refl, ◌∙◌, arith}
use Rattle.bits.proofs.TableLaws.{fill_start}
use Rattle.parity.proofs.UnpackedLaws.{symbol_part, fill_four, fours_done}
use Rattle.parity.proofs.symbol_logs.Goals as goal

pub loop-q-init : goal.loop-q-init
loop-q-init c = fill_start _ _

pub loop-q-preserved : goal.loop-q-preserved
loop-q-preserved c =
    let l = c.loop-q in
    let w = c.four-w.ensures in
    fill_four _ l.q _ _ _ _ _ _ (omega arith) l.invariant
    (c.log_of.ensures ∙ symbol_part _ l.q 4 22 (4 * l.q) _ refl (omega arith) w)
    (c.log_of-in-loop-q.ensures ∙ symbol_part _ l.q 10 16 (4 * l.q + 1) _ refl (omega arith) w)
    (c.log_of-in-loop-q-2.ensures ∙ symbol_part _ l.q 16 10 (4 * l.q + 2) _ refl (omega arith) w)
    (c.log_of-in-loop-q-3.ensures ∙ symbol_part _ l.q 22 4 (4 * l.q + 3) _ refl (omega arith) w)

pub returns : goal.returns
returns c =
    let l = c.loop-q in
    fours_done _ _ _ l.q (omega arith) refl l.invariant
