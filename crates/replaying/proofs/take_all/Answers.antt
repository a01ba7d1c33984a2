use native.Mathlib.Omega.{arith}
use mathlib.Core.Path.{ap, ◌∙◌}
use Rattle.verdict.specs.Verdict.{number_in}
use Rattle.ledger_calls.proofs.ReplayLaws.{taking_start, taking_turn, taking_end}
use Rattle.replaying.proofs.take_all.Goals as goal

pub loop-i-init : goal.loop-i-init
loop-i-init c = let a = c.args in taking_start number_in a.t.now a.log.now a.verdicts.now c.requires

pub loop-i-preserved : goal.loop-i-preserved
loop-i-preserved c =
    let l = c.loop-i in
    let a = c.args in
    let n = c.take_nth in
    taking_turn number_in a.t.now a.log.now a.verdicts.now l.t l.verdicts _ l.i c.number_of-n.result l.invariant (omega (arith, l.invariant.many)) n.auto.t n.ensures.bytes (c.number_of-n.ensures ∙ ap number_in n.ensures.verdict)

pub returns : goal.returns
returns c =
    let l = c.loop-i in
    let a = c.args in
    let p = taking_end number_in a.t.now a.log.now a.verdicts.now l.t l.verdicts l.i l.invariant (omega (arith, l.invariant.many)) in
    record { bytes = p.0; answers = p.1 }
