use borrow.Author.Rules.{rules}
use Rattle.bits.proofs.MadeLaws.{made_table}
use Rattle.from_flat.specs.Read.{flat_clock_nth, flat_clocks_at}
use Rattle.from_flat.proofs.read_clocks.Goals as goal

pub returns : goal.returns
unfolding flat_clocks_at
returns c = made_table (flat_clock_nth c.args.t.now) _ _ _ c.from_fn.ensures.items (λ j y q k. search rules)
