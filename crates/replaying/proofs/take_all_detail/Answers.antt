use native.Mathlib.Omega.{arith}
use mathlib.Core.Path.{ap, ◌∙◌}
use Rattle.answers.specs.Detail.{detail_in}
use Rattle.ledger_calls.proofs.ReplayLaws.{taking_start, taking_turn, taking_end}
use Rattle.replaying.proofs.take_all_detail.Goals as goal

pub loop-i-init : goal.loop-i-init
loop-i-init c = let a = c.args in taking_start detail_in a.t.now a.log.now a.details.now c.requires

pub loop-i-preserved : goal.loop-i-preserved
loop-i-preserved c =
    let l = c.loop-i in
    let a = c.args in
    let n = c.take_nth in
    taking_turn detail_in a.t.now a.log.now a.details.now l.t l.details _ l.i c.detail-n.result l.invariant (omega (arith, l.invariant.many)) n.auto.t n.ensures.bytes (c.detail-n.ensures ∙ ap detail_in n.ensures.verdict)

pub returns : goal.returns
returns c =
    let l = c.loop-i in
    let a = c.args in
    let p = taking_end detail_in a.t.now a.log.now a.details.now l.t l.details l.i l.invariant (omega (arith, l.invariant.many)) in
    record { bytes = p.0; answers = p.1 }
