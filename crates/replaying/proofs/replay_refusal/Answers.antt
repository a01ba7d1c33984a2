use mathlib.Core.Path.{sym, ap, ◌∙◌}
use Rattle.verdict.specs.Verdict.{refused_by}
use Rattle.ledger_calls.proofs.ReplayLaws.{refusal_ledger, refusal_room, refusal_prn, refusal_none}
use Rattle.replaying.proofs.replay_refusal.Goals as goal

pub returns-then-ledger-ne-LEDGER_SIZE : goal.returns-then-ledger-ne-LEDGER_SIZE
returns-then-ledger-ne-LEDGER_SIZE c =
    let a = c.args in ap refused_by (refusal_ledger a.ledger a.prn a.log a.verdicts c.if-ledger-ne-LEDGER_SIZE.true)

pub returns-then-verdicts-frame_count : goal.returns-then-verdicts-frame_count
returns-then-verdicts-frame_count c =
    let a = c.args in
    ap refused_by (refusal_room a.ledger a.prn a.log a.verdicts c.if-ledger-ne-LEDGER_SIZE.false (λ z. c.if-verdicts-frame_count.true (z ∙ sym c.frame_count.ensures)))

pub returns-then-not-is_prn : goal.returns-then-not-is_prn
returns-then-not-is_prn c =
    let a = c.args in
    let fits = c.if-verdicts-frame_count.false ∙ c.frame_count.ensures in
    ap refused_by (refusal_prn a.ledger a.prn a.log a.verdicts c.if-ledger-ne-LEDGER_SIZE.false fits (sym c.is_prn.ensures ∙ c.if-not-is_prn.true))

pub returns : goal.returns
returns c =
    let a = c.args in
    let fits = c.if-verdicts-frame_count.false ∙ c.frame_count.ensures in
    ap refused_by (refusal_none a.ledger a.prn a.log a.verdicts c.if-ledger-ne-LEDGER_SIZE.false fits (sym c.is_prn.ensures ∙ c.if-not-is_prn.false))
