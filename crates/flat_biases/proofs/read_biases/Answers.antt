use borrow.Author.Rules.{rules}
use Rattle.bits.proofs.MadeLaws.{made_table}
use Rattle.flat_biases.specs.Biases.{flat_bias_nth, flat_biases_at}
use Rattle.flat_biases.proofs.read_biases.Goals as goal

pub returns : goal.returns
unfolding flat_biases_at
returns c = made_table (flat_bias_nth c.args.t.now) _ _ _ c.from_fn.ensures.items (λ j y q k. search rules)
