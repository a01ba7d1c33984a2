use mathlib.Core.Path.{sym, ap, ◌∙◌}
use Rattle.ledger_log.specs.Epochs.{with_epoch, epochs_after, epoch_bit}
use Rattle.ledger_log.proofs.EpochLaws.{epoch_there}
use Rattle.ledger_log.proofs.BitLaws.{epoch_some, epoch_none}
use Rattle.ledger_log.proofs.epochs.after.Goals as goal

pub returns-then-not-taken : goal.returns-then-not-taken
unfolding epochs_after
returns-then-not-taken c = rw (c.if-not-taken.true) c.since_then.ensures

pub returns-in_default : goal.returns-in_default
unfolding epochs_after
returns-in_default c =
    let a = c.args in
    rw (c.if-not-taken.false, epoch_there a.frame.now, epoch_none (epoch_bit a.frame.now) c.in_default.ensures) c.since_then-in_default.ensures

pub returns : goal.returns
unfolding epochs_after
returns c =
    let a = c.args in
    let there = epoch_some (epoch_bit a.frame.now) c.in-Some.at c.in-Some.ensures in
    rw (c.if-not-taken.false, epoch_there a.frame.now, there.0)
    (c.with_epoch.ensures ∙ ap (with_epoch a.e) (rw there.1 c.get32.ensures))
