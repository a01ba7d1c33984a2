use borrow.Author.Rules.{rules}
use Rattle.bits.proofs.MadeLaws.{made_table}
use Rattle.flat_biases.specs.Biases.{flat_sat_nth, flat_sats_at}
use Rattle.flat_biases.proofs.read_sats.Goals as goal

pub returns : goal.returns
unfolding flat_sats_at
returns c = made_table (flat_sat_nth c.args.t.now) _ _ _ c.from_fn.ensures.items (λ j y q k. search rules)
