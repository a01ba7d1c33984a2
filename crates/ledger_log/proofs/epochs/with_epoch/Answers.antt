use Rattle.ledger_log.specs.Epochs.{with_epoch}
use Rattle.ledger_log.proofs.epochs.with_epoch.Goals as goal

pub returns-then-e : goal.returns-then-e
unfolding with_epoch
returns-then-e c = rw (c.if-e.true, c.longer-gap.ensures, c.lapse.ensures)

pub returns : goal.returns
unfolding with_epoch
returns c = rw (c.if-e.false, c.no_epochs.ensures)
