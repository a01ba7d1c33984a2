use borrow.Author.Rules.{rules}
use native.Mathlib.Omega.{arith}
use Prim.Native.Nat.{◌<◌}
use mathlib.Core.Path.{◌∙◌}
use lib.ListN.{get_or}
use Rattle.tally.specs.Tally.{raised_of}
use Rattle.tally.proofs.CountLaws.{none_counted, far_counted, is_counted_lem, raised_not, stopping}
use Rattle.tally.proofs.raise.Goals as goal

pub returns-then-n-lt1 : goal.returns-then-n-lt1
returns-then-n-lt1 c = raised_not _ _ (none_counted c.args.n (omega (arith, c.if-n-lt1.true)))

pub returns-then-n-gt39 : goal.returns-then-n-gt39
returns-then-n-gt39 c = raised_not _ _ (far_counted c.args.n (omega (arith, c.if-n-lt1.false)) c.if-n-gt39.true)

pub returns : goal.returns
unfolding raised_of
returns c =
    let a = c.args in
    let small : get_or a.t.now.counts a.n 0 < 4294967296 = search rules in
    rw (is_counted_lem a.n (omega (arith, c.if-n-lt1.false)) (omega (arith, c.if-n-gt39.false)), c.saturating_add.ensures ∙ stopping (get_or a.t.now.counts a.n 0) small)
