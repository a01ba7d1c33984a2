use borrow.Author.Rules.{rules}
use Rattle.bits.proofs.MadeLaws.{made_table}
use Rattle.canonical.specs.Canon.{canon_clock_nth, canon_clock_rows}
use Rattle.canonical.proofs.canon_clock_rows.Goals as goal

pub returns : goal.returns
unfolding canon_clock_rows
returns c = made_table (canon_clock_nth c.args.slotted c.args.n c.args.ks.now) _ _ _ c.from_fn.ensures.items (λ j y q k. search rules)
