use borrow.Author.Rules.{rules}
use native.Mathlib.Omega.{arith}
use Prim.Native.Nat.{◌<◌}
use mathlib.Core.Path.{◌∙◌}
use Rattle.ledger_log.specs.Epochs.{since_then}
use Rattle.ledger_log.proofs.EpochLaws.{as_far}
use Rattle.ledger_log.proofs.epochs.since_then.Goals as goal

pub returns : goal.returns
unfolding since_then
returns c =
    let long : c.args.e.since < 18446744073709551616 = search rules in
    rw (c.saturating_add.ensures ∙ as_far c.args.e.since long)
