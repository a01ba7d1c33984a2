use borrow.Author.Rules.{rules}
use mathlib.Core.Path.{sym, ◌∙◌}
use Rattle.ledger_calls.proofs.LedgerLaws.{open_size, open_no, open_yes}
use Rattle.quieuvodan.proofs.qvd_open.Goals as goal

pub returns-then-ledger-ne-LEDGER_SIZE : goal.returns-then-ledger-ne-LEDGER_SIZE
returns-then-ledger-ne-LEDGER_SIZE c =
    let a = c.args in
    let p = open_size a.ledger.now a.prn c.if-ledger-ne-LEDGER_SIZE.true in
    record { answer = p.0; bytes = p.1 }

pub returns-then-not-is_prn : goal.returns-then-not-is_prn
returns-then-not-is_prn c =
    let a = c.args in
    let p = open_no a.ledger.now a.prn c.if-ledger-ne-LEDGER_SIZE.false (sym c.is_prn.ensures ∙ c.if-not-is_prn.true) in
    record { answer = p.0; bytes = p.1 }

pub returns : goal.returns
returns c =
    let a = c.args in
    let p = open_yes a.ledger.now a.prn _ c.if-ledger-ne-LEDGER_SIZE.false (sym c.is_prn.ensures ∙ c.if-not-is_prn.false) c.make_fresh.ensures in
    record { answer = p.0; bytes = p.1 }
